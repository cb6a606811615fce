use Rattle.timex_dates.proofs.EveryTime.{every_time}
use Rattle.timex_dates.proofs.laws.every_time.Goals as goal

pub returns : goal.returns
returns c = every_time
