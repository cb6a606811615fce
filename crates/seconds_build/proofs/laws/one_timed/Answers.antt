use Rattle.seconds_build.proofs.Nets.{one_timed}
use Rattle.seconds_build.proofs.laws.one_timed.Goals as goal

pub returns : goal.returns
returns c = one_timed
