use Rattle.std.proofs.Common.{◌≡◌, ◌++◌, drop}
use Rattle.document_answers.specs.Check as texts
use Rattle.document_answers.proofs.check.push_links.Given as goal

-- the lines so far, and those of what is left
abbrev pub invariant-loop-k : goal.invariant-loop-k
invariant-loop-k l = l.out.items ++ texts.link_lines l.document.intervals l.k (drop l.k l.document.links) ≡ l.fn.out.items ++ texts.link_lines l.document.intervals 0 l.document.links
