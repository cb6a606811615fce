use Rattle.std.proofs.Common.{◌↔◌, get_or}
use Rattle.net_core.specs.Nets.{points}
use Rattle.net_core.specs.Relations.{Timeline}
use Rattle.order_closure.specs.Tables.{AreInRange, SatisfiesAll}
use Rattle.walks.proofs.DateLaws.{no_date}
use Rattle.net_orders.specs.Dates.{FollowsAll, PutsLastBefore}
use Rattle.net_orders.specs.Steps.{KeepsSpans}
use Rattle.net_orders.proofs.Steps.{Below}
use Rattle.net_orders.proofs.calendar.calendar_orders.Given as goal

-- the orders so far say that all points with lower numbers follow those with upper numbers so far
abbrev pub invariant-loop-upper : goal.invariant-loop-upper
invariant-loop-upper l = record {
  in_range : AreInRange (points l.net) l.orders.items;
  said : (t : Timeline) → KeepsSpans l.net t → SatisfiesAll l.orders.items t ↔ Below (λ k. FollowsAll l.lowers.items (get_or l.upper-items k no_date)) l.upper-index t;
  last : PutsLastBefore l.net l.lowers.items l.orders.items l.last;
}
