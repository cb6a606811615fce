use Rattle.tml_score.proofs.Counted.{one_score}
use Rattle.tml_score.proofs.laws.one_score.Goals as goal

pub returns : goal.returns
returns c = one_score
