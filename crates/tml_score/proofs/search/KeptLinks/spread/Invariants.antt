use Rattle.std.proofs.Common.{ℕ, ◌<◌, get_or}
use Rattle.net_orders.specs.declared.orders.Order.{Order}
use Rattle.tml_score.specs.Search.{ExtendsReached, IsPassed, IsSearch, IsRemainingWay, basis_of}
use Rattle.tml_score.proofs.search.KeptLinks.spread.Given as goal

-- the orders so far are passed
abbrev pub invariant-loop-order : goal.invariant-loop-order
invariant-loop-order l = record {
  search : IsSearch (basis_of l.self) l.asked l.reached;
  extends : ExtendsReached l.fn.reached l.reached;
  passed : (k : ℕ) (d : Order) → k < l.order-index → IsRemainingWay (basis_of l.self) l.asked (get_or l.order-items k d) → IsPassed (basis_of l.self) l.asked l.reached.points (get_or l.order-items k d);
}
