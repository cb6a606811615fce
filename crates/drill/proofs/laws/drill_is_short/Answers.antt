use Rattle.drill.proofs.Short.{drill_is_short}
use Rattle.drill.proofs.laws.drill_is_short.Goals as goal

pub returns : goal.returns
returns c = drill_is_short
