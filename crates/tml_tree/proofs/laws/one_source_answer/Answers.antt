use Rattle.tml_tree.proofs.Faults as law
use Rattle.tml_tree.proofs.laws.one_source_answer.Goals as goal

pub returns : goal.returns
returns c = law.one_source_answer
