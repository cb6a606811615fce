use Rattle.seconds_check.proofs.Verdicts as law
use Rattle.seconds_check.proofs.laws.one_verdict.Goals as goal

pub returns : goal.returns
returns c = law.one_verdict
