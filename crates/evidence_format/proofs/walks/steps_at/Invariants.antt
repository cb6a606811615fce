use Rattle.std.proofs.Common.{◌≡◌, ◌-◌}
use Rattle.line_texts.specs.Lines.{lines_of}
use Rattle.line_texts.specs.Reading.{line_at, many_at}
use Rattle.evidence_format.specs.Forms.{step_of}
use Rattle.line_texts.proofs.Loops.{with_prefix}
use Rattle.evidence_format.proofs.walks.steps_at.Given as goal

-- what was read and what is still read are all
abbrev pub invariant-loop : goal.invariant-loop
invariant-loop l = with_prefix l.walk (many_at (line_at step_of) (l.count - l.counter) (lines_of l.rest)) ≡ many_at (line_at step_of) l.count (lines_of l.text)
