use Rattle.evidence_check.proofs.Judged as law
use Rattle.evidence_check.proofs.laws.supported_or_refused.Goals as goal

pub returns : goal.returns
returns c = law.supported_or_refused
