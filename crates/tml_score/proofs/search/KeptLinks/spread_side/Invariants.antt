use Rattle.std.proofs.Common.{ℕ, ◌<◌, get_or}
use Rattle.net_orders.specs.declared.orders.Order.{Order}
use Rattle.tml_score.specs.Ends.{far_end_of}
use Rattle.tml_score.specs.Meeting.{ShareNoPoint, IsOn, IsPassedAt, IsSide}
use Rattle.tml_score.specs.Search.{ExtendsReached, IsRemainingWay, basis_of}
use Rattle.tml_score.proofs.search.KeptLinks.spread_side.Given as goal

-- the orders so far are passed
abbrev pub invariant-loop-order : goal.invariant-loop-order
invariant-loop-order l = record {
  side : IsSide (basis_of l.self) (IsOn l.near (basis_of l.self) l.asked) l.own;
  extends : ExtendsReached l.fn.own l.own;
  apart : ShareNoPoint l.own l.other;
  passed : (k : ℕ) (d : Order) → k < l.order-index → IsRemainingWay (basis_of l.self) l.asked (get_or l.order-items k d) → IsPassedAt (basis_of l.self) l.asked l.own.points (far_end_of l.near (get_or l.order-items k d));
}
