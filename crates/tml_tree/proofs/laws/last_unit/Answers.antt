use Rattle.tml_tree.proofs.LastUnits as law
use Rattle.tml_tree.proofs.laws.last_unit.Goals as goal

pub returns : goal.returns
returns c = law.last_unit
