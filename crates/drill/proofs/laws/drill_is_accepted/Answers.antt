use Rattle.drill.proofs.Accepted as law
use Rattle.drill.proofs.laws.drill_is_accepted.Goals as goal

pub returns : goal.returns
returns c = law.drill_is_accepted
