use Rattle.std.proofs.Common.{◌≡◌, ◌-◌}
use Rattle.line_texts.specs.Lines.{lines_of}
use Rattle.line_texts.specs.Reading.{many_at}
use Rattle.evidence_format.specs.Readers.{walk_at}
use Rattle.line_texts.proofs.Loops.{with_prefix}
use Rattle.evidence_format.proofs.walks.walks_at.Given as goal

-- what was read and what is still read are all
abbrev pub invariant-loop : goal.invariant-loop
invariant-loop l = with_prefix l.walks (many_at walk_at (l.count - l.counter) (lines_of l.rest)) ≡ many_at walk_at l.count (lines_of l.text)
