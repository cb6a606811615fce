use Rattle.timex_dates.proofs.OneAnswers.{one_extent}
use Rattle.timex_dates.proofs.laws.one_extent.Goals as goal

pub returns : goal.returns
returns c = one_extent
