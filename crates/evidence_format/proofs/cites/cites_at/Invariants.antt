use Rattle.std.proofs.Common.{◌≡◌}
use Rattle.line_texts.specs.Lines.{lines_of}
use Rattle.evidence_format.specs.Readers.{cites_at}
use Rattle.line_texts.proofs.Loops.{with_prefix}
use Rattle.evidence_format.proofs.cites.cites_at.Given as goal

-- what was read and what is still read are all
abbrev pub invariant-loop-left : goal.invariant-loop-left
invariant-loop-left l = with_prefix l.cites (cites_at l.left l.least (lines_of l.rest)) ≡ cites_at l.count 0 (lines_of l.text)
