use Rattle.tml_canon.proofs.CanonicalTrees as law
use Rattle.tml_canon.proofs.laws.canonical_is_read.Goals as goal

pub returns : goal.returns
returns c = law.canonical_is_read
