use Rattle.tml_span.proofs.Pieces as law
use Rattle.tml_span.proofs.laws.units_are_good.Goals as goal

pub returns : goal.returns
returns c = law.units_are_good
