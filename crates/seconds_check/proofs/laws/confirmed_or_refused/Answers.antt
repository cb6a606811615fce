use Rattle.seconds_check.proofs.Judged as law
use Rattle.seconds_check.proofs.laws.confirmed_or_refused.Goals as goal

pub returns : goal.returns
returns c = law.confirmed_or_refused
