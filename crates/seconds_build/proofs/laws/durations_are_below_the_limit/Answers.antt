use Rattle.seconds_build.proofs.Texts.{durations_are_below}
use Rattle.seconds_build.proofs.laws.durations_are_below_the_limit.Goals as goal

pub returns : goal.returns
returns c = durations_are_below
