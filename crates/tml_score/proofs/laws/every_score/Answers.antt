use Rattle.tml_score.proofs.Counted.{every_score}
use Rattle.tml_score.proofs.laws.every_score.Goals as goal

pub returns : goal.returns
returns c = every_score
