use Rattle.std.proofs.Common.{◌∙◌}
use Rattle.evidence_format.proofs.Writing.{bodies_text}
use Rattle.evidence_format.proofs.write.write_bodies.Goals as goal

pub returns : goal.returns
returns c = λ es are bodies. bodies_text es c.args.bodies.text.now _ c.args.bodies.count are bodies.0 bodies.1 (c.from_vec.ensures ∙ c.in_ok-joined_bytes.ensures)
