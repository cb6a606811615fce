use Rattle.net_core.proofs.AtomLaws as law
use Rattle.net_core.proofs.atom.atoms_say_the_relation.Goals as goal

pub returns : goal.returns
returns c = law.atoms_say_the_relation
