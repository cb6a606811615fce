use Rattle.tml_tool.proofs.TwoRuns as law
use Rattle.tml_tool.proofs.laws.evidence_is_verified.Goals as goal

pub returns : goal.returns
returns c = law.evidence_is_verified
