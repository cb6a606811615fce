use Rattle.tml_tree.proofs.WrittenTrees as law
use Rattle.tml_tree.proofs.laws.written_is_read.Goals as goal

pub returns : goal.returns
returns c = law.written_is_read
