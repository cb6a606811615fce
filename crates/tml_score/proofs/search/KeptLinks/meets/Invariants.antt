use Rattle.std.proofs.Common.{◌≡◌, ℕ, ◌-◌, ◌<◌, ◌≤◌, length, slice_index}
use Rattle.std.specs.List.{Contains}
use Rattle.net_orders.specs.declared.orders.Order.{Order}
use Rattle.tml_score.specs.Meeting.{ShareNoPoint, IsLedTo, IsPassedAt, IsSide}
use Rattle.tml_score.specs.Search.{IsLed, IsRemainingWay, basis_of}
use Rattle.tml_score.proofs.search.KeptLinks.meets.Given as goal

-- the points of both sides before this turn are gone through
abbrev pub invariant-loop-turn : goal.invariant-loop-turn
invariant-loop-turn l = record {
  onward : IsSide (basis_of l.self) (IsLed (basis_of l.self) l.asked) l.onward;
  back : IsSide (basis_of l.self) (IsLedTo (basis_of l.self) l.asked) l.back;
  apart : ShareNoPoint l.onward l.back;
  first : Contains l.onward.points l.asked.order.from;
  last : Contains l.back.points l.asked.order.to;
  turn : (l.turn ≤ length l.onward.points) × (l.turn ≤ length l.back.points);
  on : (k : ℕ) → k < l.turn → (o : Order) → IsRemainingWay (basis_of l.self) l.asked o → o.atom.from ≡ slice_index l.onward.points k → IsPassedAt (basis_of l.self) l.asked l.onward.points o.atom.to;
  before : (k : ℕ) → k < l.turn → (o : Order) → IsRemainingWay (basis_of l.self) l.asked o → o.atom.to ≡ slice_index l.back.points k → IsPassedAt (basis_of l.self) l.asked l.back.points o.atom.from;
}

abbrev pub decreases-loop-turn : goal.decreases-loop-turn
decreases-loop-turn l = l.onward.room - l.turn
