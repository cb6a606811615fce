use Rattle.std.proofs.Common.{◌≡◌, ◌<◌, ◌≤◌, ℕ, length, get_or}
use Rattle.net_orders.specs.Orders.{IsTrueBut}
use Rattle.net_orders.specs.Raising.{RisesUntil}
use Rattle.net_orders.proofs.Ordered.{no_order}
use Rattle.net_orders.proofs.Rising.{From}
use Rattle.net_orders.proofs.raising.raise_orders_back.Given as goal

-- the orders that are left are the first ones, and ranks rose by those after them
abbrev pub invariant-loop-rest : goal.invariant-loop-rest
invariant-loop-rest l = record {
  within : length l.rest ≤ length l.orders;
  left : (k : ℕ) → k < length l.rest → get_or l.rest k no_order ≡ get_or l.orders k no_order;
  so_far : RisesUntil (From (λ k t. IsTrueBut l.omitted (get_or l.orders k no_order) t) (length l.orders) (length l.rest)) l.fn.ranks l.ranks;
}

-- one order fewer is left
abbrev pub decreases-loop-rest : goal.decreases-loop-rest
decreases-loop-rest l = length l.rest
