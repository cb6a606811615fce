use Rattle.drill.proofs.Fitting.{hidden_intervals_fit}
use Rattle.drill.proofs.laws.hidden_intervals_fit.Goals as goal

pub returns : goal.returns
returns c = hidden_intervals_fit
