use Rattle.tml_score.proofs.Redundancy.{every_net_is_reduced}
use Rattle.tml_score.proofs.laws.every_net_is_reduced.Goals as goal

pub returns : goal.returns
returns c = every_net_is_reduced
