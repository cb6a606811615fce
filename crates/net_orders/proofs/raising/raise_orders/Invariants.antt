use Rattle.std.proofs.Common.{get_or}
use Rattle.net_orders.specs.Orders.{IsTrueBut}
use Rattle.net_orders.specs.Raising.{RisesUntil}
use Rattle.net_orders.proofs.Ordered.{no_order}
use Rattle.net_orders.proofs.Steps.{Below}
use Rattle.net_orders.proofs.raising.raise_orders.Given as goal

-- ranks rose by the orders so far
abbrev pub invariant-loop-order : goal.invariant-loop-order
invariant-loop-order l = RisesUntil (Below (λ k t. IsTrueBut l.omitted (get_or l.orders k no_order) t) l.order-index) l.fn.ranks l.ranks
