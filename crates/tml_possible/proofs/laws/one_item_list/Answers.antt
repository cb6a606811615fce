use Rattle.net_core.specs.Fits.{Fits}
use Rattle.net_core.specs.Nets.{points}
use Rattle.tml_possible.proofs.OneList as law
use Rattle.tml_possible.proofs.laws.one_item_list.Goals as goal

pub returns : goal.returns
returns c = λ net a b items others. law.one_item_list (points net) (Fits net) a b items others
