use Rattle.std.proofs.Common.{◌∙◌}
use Rattle.evidence_format.proofs.Writing.{bundle_text}
use Rattle.evidence_format.proofs.write.write_bundle.Goals as goal

pub returns : goal.returns
returns c = bundle_text c.args.bundle.now c.as_slice.result.now _ c.requires c.as_slice.ensures.count c.as_slice.ensures.claims (c.from_vec.ensures ∙ c.in_ok-bundle_bytes.ensures)
