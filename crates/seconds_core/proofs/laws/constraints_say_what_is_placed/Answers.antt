use Rattle.seconds_core.proofs.Kept.{constraints_say_what_is_placed}
use Rattle.seconds_core.proofs.laws.constraints_say_what_is_placed.Goals as goal

pub returns : goal.returns
returns c = constraints_say_what_is_placed
