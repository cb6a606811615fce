use Rattle.clash.proofs.Answered as law
use Rattle.clash.proofs.laws.orders_are_answered.Goals as goal

pub returns : goal.returns
returns c = law.orders_are_answered
