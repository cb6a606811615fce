use Rattle.std.proofs.Common.{get_or, []}
use Rattle.net_core.specs.Nets.{points}
use Rattle.net_orders.specs.Orders.{HoldsBut, AppendsOrders}
use Rattle.net_orders.proofs.Steps.{Below}
use Rattle.net_orders.proofs.StepsBut.{no_step}
use Rattle.net_orders.proofs.orders.orders_of.Given as goal

-- the orders of the steps so far are put
abbrev pub invariant-loop-step : goal.invariant-loop-step
invariant-loop-step l = AppendsOrders (points l.net) (λ omitted t. Below (λ k u. HoldsBut l.net omitted (get_or l.steps k no_step) u) l.step-index t) [] l.orders
