use Rattle.std.proofs.Common.{get_or}
use Rattle.net_orders.specs.Dates.{ExtendsOrders}
use Rattle.net_orders.specs.Orders.{IsTrueBut}
use Rattle.net_orders.proofs.Ordered.{no_order}
use Rattle.net_orders.proofs.Steps.{Below}
use Rattle.net_orders.proofs.orders.orders_but.Given as goal

-- the orders that are fixed, and those so far
abbrev pub invariant-loop-order : goal.invariant-loop-order
invariant-loop-order l = ExtendsOrders l.points (Below (λ k t. IsTrueBut l.omitted (get_or l.orders k no_order) t) l.order-index) l.fixed l.left.items
