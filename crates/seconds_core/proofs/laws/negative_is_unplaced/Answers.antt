use Rattle.seconds_core.proofs.Sums.{negative_is_unplaced}
use Rattle.seconds_core.proofs.laws.negative_is_unplaced.Goals as goal

pub returns : goal.returns
returns c = negative_is_unplaced
