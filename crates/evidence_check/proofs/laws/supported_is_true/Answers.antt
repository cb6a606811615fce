use Rattle.evidence_check.proofs.Soundness.{supported_is_true}
use Rattle.evidence_check.proofs.laws.supported_is_true.Goals as goal

pub returns : goal.returns
returns c = supported_is_true
