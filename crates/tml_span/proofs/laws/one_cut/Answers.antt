use Rattle.tml_span.proofs.OneCut.{one_cut_from}
use Rattle.tml_span.proofs.laws.one_cut.Goals as goal

pub returns : goal.returns
returns c = λ source units others rest after h k. one_cut_from 0 source units others rest after h k
