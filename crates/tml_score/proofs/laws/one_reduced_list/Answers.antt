use Rattle.tml_score.proofs.Redundancy.{one_reduced_list}
use Rattle.tml_score.proofs.laws.one_reduced_list.Goals as goal

pub returns : goal.returns
returns c = one_reduced_list
