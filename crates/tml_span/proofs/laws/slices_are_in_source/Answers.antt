use Rattle.std.proofs.Common.{[], refl}
use Rattle.tml_span.proofs.SlicesIn.{units_are_in}
use Rattle.tml_span.proofs.laws.slices_are_in_source.Goals as goal

pub returns : goal.returns
returns c = λ source units rest h. units_are_in source [] source rest 0 units refl refl h
