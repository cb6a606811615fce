use Rattle.order_closure.proofs.Central as law
use Rattle.order_closure.proofs.laws.weaker_cells_can_fail.Goals as goal

pub returns : goal.returns
returns c = law.weaker_cells_can_fail
