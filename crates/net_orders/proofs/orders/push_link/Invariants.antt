use Rattle.std.proofs.Common.{◌≡◌, length}
use Rattle.net_core.specs.Atoms.{atoms_in}
use Rattle.net_core.specs.Nets.{points}
use Rattle.net_orders.specs.Orders.{IsTrueBut, AppendsOrders}
use Rattle.net_orders.proofs.Ordered.{order_at}
use Rattle.net_orders.proofs.Steps.{Below}
use Rattle.net_orders.proofs.orders.push_link.Given as goal

-- the orders so far are put
abbrev pub invariant-loop-number : goal.invariant-loop-number
invariant-loop-number l = record {
  end : l.number-end ≡ length (atoms_in l.atoms);
  so_far : AppendsOrders (points l.net) (λ omitted t. Below (λ k u. IsTrueBut omitted (order_at (atoms_in l.atoms) l.link k) u) l.number t) l.fn.orders l.orders;
}
