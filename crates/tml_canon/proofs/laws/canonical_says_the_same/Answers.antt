use Rattle.tml_canon.proofs.laws.canonical_says_the_same.Goals as goal
use Rattle.tml_canon.proofs.Saying as law

pub returns : goal.returns
returns c = law.canonical_says_the_same
