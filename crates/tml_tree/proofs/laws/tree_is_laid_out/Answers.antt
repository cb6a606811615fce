use Rattle.tml_tree.proofs.LaidOut as law
use Rattle.tml_tree.proofs.laws.tree_is_laid_out.Goals as goal

pub returns : goal.returns
returns c = law.tree_is_laid_out
