use Rattle.clash.proofs.Complete.{clashes_have_closed_walks}
use Rattle.clash.proofs.laws.clashes_have_closed_walks.Goals as goal

pub returns : goal.returns
returns c = clashes_have_closed_walks
