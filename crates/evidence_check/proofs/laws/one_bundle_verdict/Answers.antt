use Rattle.evidence_check.proofs.Bundles as law
use Rattle.evidence_check.proofs.laws.one_bundle_verdict.Goals as goal

pub returns : goal.returns
returns c = law.one_bundle_verdict
