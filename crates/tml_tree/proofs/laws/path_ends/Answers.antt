use Rattle.tml_tree.proofs.Faults as law
use Rattle.tml_tree.proofs.laws.path_ends.Goals as goal

pub returns : goal.returns
returns c = law.path_ends
