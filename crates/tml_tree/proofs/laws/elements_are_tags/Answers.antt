use Rattle.tml_tree.proofs.Elements as law
use Rattle.tml_tree.proofs.laws.elements_are_tags.Goals as goal

pub returns : goal.returns
returns c = law.elements_are_tags
