use Rattle.std.proofs.Common.{◌≡◌, ◌++◌, drop}
use Rattle.std.specs.List.{flat_map}
use Rattle.score_answers.specs.Reduce.{reduced_line, reduced_text}
use Rattle.score_answers.proofs.reduce.links_text.Given as goal

-- the lines so far, and those of what is left
abbrev pub invariant-loop-k : goal.invariant-loop-k
invariant-loop-k l = l.text.items ++ flat_map (reduced_line l.document) (drop l.k-index l.links) ≡ reduced_text l.document l.links
