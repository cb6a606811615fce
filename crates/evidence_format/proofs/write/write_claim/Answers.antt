use Rattle.std.proofs.Common.{[], ◌∷◌, ◌∙◌}
use Rattle.evidence_format.specs.Evidence.{IsWellFormed}
use Rattle.evidence_format.specs.View.{plain}
use Rattle.evidence_format.proofs.BundleLaws.{one_claim}
use Rattle.evidence_format.proofs.Claims.{all_of_one}
use Rattle.evidence_format.proofs.Writing.{bundle_text}
use Rattle.evidence_format.proofs.write.write_claim.Goals as goal

pub bundle_bytes-requires-clause-good : goal.bundle_bytes-requires-clause-good
bundle_bytes-requires-clause-good c = rw c.from_ref.ensures.value (all_of_one IsWellFormed (plain c.args.evidence.now) c.requires)

pub returns : goal.returns
returns c =
    let good = all_of_one IsWellFormed (plain c.args.evidence.now) c.requires in
    bundle_text (c.args.evidence.now ∷ []) c.from_ref.result.now _ good one_claim c.from_ref.ensures.value (c.from_vec.ensures ∙ c.in_ok-bundle_bytes.ensures)
