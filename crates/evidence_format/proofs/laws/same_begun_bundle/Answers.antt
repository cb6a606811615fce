use Rattle.evidence_format.proofs.BundleParts as parts
use Rattle.evidence_format.proofs.laws.same_begun_bundle.Goals as goal

pub returns : goal.returns
returns c = parts.same_begun_bundle
