use Rattle.timex_dates.proofs.OneAnswers.{one_bounds}
use Rattle.timex_dates.proofs.laws.one_bounds.Goals as goal

pub returns : goal.returns
returns c = one_bounds
