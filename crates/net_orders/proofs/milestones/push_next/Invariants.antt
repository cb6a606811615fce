use Rattle.std.proofs.Common.{ℕ, ◌+◌, ◌*◌, ◌<◌, ◌≤◌, length}
use Rattle.net_orders.specs.Dates.{ExtendsOrders}
use Rattle.net_orders.specs.Milestones.{IsBeforeNext}
use Rattle.net_orders.proofs.milestones.push_next.Given as goal

-- the milestones so far are no later than the next ones
abbrev pub invariant-loop-k : goal.invariant-loop-k
invariant-loop-k l = record {
  some : 1 ≤ l.k;
  within : (j : ℕ) → j + 1 < l.k → j + 1 < length l.lowers;
  so_far : ExtendsOrders (2 * l.points) (λ t. (j : ℕ) → j + 1 < l.k → IsBeforeNext l.points l.lowers j t) l.fn.orders.items l.orders.items;
}
