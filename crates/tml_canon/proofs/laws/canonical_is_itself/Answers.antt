use Rattle.tml_canon.proofs.Alike as law
use Rattle.tml_canon.proofs.laws.canonical_is_itself.Goals as goal

pub returns : goal.returns
returns c = law.canonical_is_itself
