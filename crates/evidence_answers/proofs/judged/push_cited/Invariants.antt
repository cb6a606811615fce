use Rattle.std.proofs.Common.{◌≡◌, ◌++◌, drop}
use Rattle.std.specs.List.{flat_map}
use Rattle.evidence_answers.specs.Texts as texts
use Rattle.evidence_answers.proofs.judged.push_cited.Given as goal

-- the numbers so far, and those of what is left
abbrev pub invariant-loop-link : goal.invariant-loop-link
invariant-loop-link l = l.out.items ++ flat_map texts.cited (drop l.link-index l.cites) ≡ l.fn.out.items ++ flat_map texts.cited l.cites
