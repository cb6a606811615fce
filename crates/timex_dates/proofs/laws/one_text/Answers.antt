use Rattle.timex_dates.proofs.OneDates.{one_text}
use Rattle.timex_dates.proofs.laws.one_text.Goals as goal

pub returns : goal.returns
returns c = one_text
