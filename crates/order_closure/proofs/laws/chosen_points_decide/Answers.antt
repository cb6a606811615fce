use Rattle.order_closure.proofs.Chosen as law
use Rattle.order_closure.proofs.laws.chosen_points_decide.Goals as goal

pub returns : goal.returns
returns c = law.chosen_points_decide
