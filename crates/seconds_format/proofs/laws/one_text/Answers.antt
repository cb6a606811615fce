use Rattle.seconds_format.proofs.Reading.{one_value}
use Rattle.seconds_format.proofs.laws.one_text.Goals as goal

pub returns-clause-values : goal.returns-clause-values
returns-clause-values c = one_value
