use Rattle.tml_canon.proofs.OneText as law
use Rattle.tml_canon.proofs.laws.one_canonical_text.Goals as goal

pub returns : goal.returns
returns c = law.one_canonical_text
