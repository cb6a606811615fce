use Rattle.std.proofs.Common.{◌≡◌, ◌-◌, List}
use Rattle.evidence_format.specs.Evidence.{PlainEvidence}
use Rattle.line_texts.specs.Lines.{lines_of}
use Rattle.line_texts.specs.Reading.{many_at}
use Rattle.evidence_format.specs.Readers.{body_at}
use Rattle.line_texts.proofs.Loops.{with_prefix}
use Rattle.evidence_format.proofs.bodies.pass_bodies.Given as goal

-- what was read and what is still read are all
abbrev pub invariant-loop : goal.invariant-loop
invariant-loop l = (es : List PlainEvidence) × (with_prefix es (many_at body_at (l.count - l.counter) (lines_of l.rest)) ≡ many_at body_at l.count (lines_of l.text))
