use Rattle.tml_tree.proofs.Paths as law
use Rattle.tml_tree.proofs.laws.one_tree.Goals as goal

pub returns : goal.returns
returns c = law.one_tree
