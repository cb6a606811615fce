use Rattle.tml_tree.proofs.Paths as law
use Rattle.tml_tree.proofs.laws.one_tree_of_source.Goals as goal

pub returns : goal.returns
returns c = law.one_tree_of_source
