use Rattle.clash.proofs.OneClosure as law
use Rattle.clash.proofs.laws.net_has_one_closure.Goals as goal

pub returns : goal.returns
returns c = law.one_closure
