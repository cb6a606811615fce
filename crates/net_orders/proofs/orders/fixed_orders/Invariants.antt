use Rattle.std.proofs.Common.{◌≡◌, ◌↔◌}
use Rattle.net_core.specs.Nets.{intervals, points}
use Rattle.net_core.specs.Relations.{Timeline}
use Rattle.order_closure.specs.Tables.{AreInRange, SatisfiesAll}
use Rattle.net_orders.specs.Steps.{KeepsDates, KeepsSpans}
use Rattle.net_orders.proofs.Ordered.{IsFixedBelow}
use Rattle.net_orders.proofs.orders.fixed_orders.Given as goal

-- the orders of the calendar, and of the intervals so far
abbrev pub invariant-loop-interval : goal.invariant-loop-interval
invariant-loop-interval l = record {
  end : l.interval-end ≡ intervals l.net;
  in_range : AreInRange (points l.net) l.fixed.items;
  spans : (t : Timeline) → SatisfiesAll l.fixed.items t → IsFixedBelow l.interval t;
  dates : (t : Timeline) → KeepsSpans l.net t → SatisfiesAll l.fixed.items t ↔ KeepsDates l.net t;
}
