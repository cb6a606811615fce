use Rattle.clash.proofs.Complete.{walks_say_all}
use Rattle.clash.proofs.laws.walks_say_all.Goals as goal

pub returns : goal.returns
returns c = walks_say_all
