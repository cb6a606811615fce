use Rattle.std.proofs.Common.{◌≡◌, ℕ, ◌-◌, ◌<◌, ◌≤◌, length, slice_index}
use Rattle.std.specs.List.{Contains}
use Rattle.net_orders.specs.declared.orders.Order.{Order}
use Rattle.tml_score.specs.Search.{IsPassed, IsSearch, IsRemainingWay, basis_of}
use Rattle.tml_score.proofs.search.KeptLinks.leads.Given as goal

-- the points of the turns before this one
abbrev pub invariant-loop-turn : goal.invariant-loop-turn
invariant-loop-turn l = record {
  search : IsSearch (basis_of l.self) l.asked l.reached;
  start : Contains l.reached.points l.asked.order.from;
  turn : l.turn ≤ length l.reached.points;
  passed : (k : ℕ) → k < l.turn → (o : Order) → IsRemainingWay (basis_of l.self) l.asked o → o.atom.from ≡ slice_index l.reached.points k → IsPassed (basis_of l.self) l.asked l.reached.points o;
}

abbrev pub decreases-loop-turn : goal.decreases-loop-turn
decreases-loop-turn l = l.reached.room - l.turn
