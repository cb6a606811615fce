use Rattle.timex_dates.proofs.EveryText.{every_text}
use Rattle.timex_dates.proofs.laws.every_text.Goals as goal

pub returns : goal.returns
returns c = every_text
