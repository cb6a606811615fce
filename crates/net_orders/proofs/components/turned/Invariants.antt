use Rattle.std.proofs.Common.{◌≡◌, length}
use Rattle.order_closure.specs.Tables.{AreInRange}
use Rattle.net_orders.proofs.components.turned.Given as goal

abbrev pub invariant-loop-order : goal.invariant-loop-order
invariant-loop-order l = record {
  size : length l.turned.items ≡ l.order-index;
  in_range : AreInRange l.points l.turned.items;
}
