use Rattle.order_closure.specs.Tables.{SatisfiesAll}
use Rattle.net_orders.specs.Raising.{RanksRise}
use Rattle.net_orders.proofs.least.raise_in_turns.Given as goal

-- ranks rose in the turns so far
abbrev pub invariant-turns : goal.invariant-turns
invariant-turns l = RanksRise (SatisfiesAll l.orders) l.fn.ranks l.ranks
