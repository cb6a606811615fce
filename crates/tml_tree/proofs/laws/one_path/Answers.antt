use Rattle.tml_tree.proofs.Paths as law
use Rattle.tml_tree.proofs.laws.one_path.Goals as goal

pub returns : goal.returns
returns c = law.one_path
