use Rattle.evidence_format.proofs.Reading as law
use Rattle.evidence_format.proofs.laws.bundle_or_bad_line.Goals as goal

pub returns : goal.returns
returns c = law.bundle_or_bad_line
