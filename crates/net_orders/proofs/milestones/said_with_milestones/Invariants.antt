use Rattle.std.proofs.Common.{◌≡◌}
use Rattle.net_core.specs.Nets.{intervals}
use Rattle.net_orders.specs.Milestones.{SaysByMilestones}
use Rattle.net_orders.specs.Steps.{KeepsDates}
use Rattle.net_orders.proofs.Ordered.{IsFixedBelow}
use Rattle.net_orders.proofs.milestones.said_with_milestones.Given as goal

-- the orders of the calendar, and that the intervals so far start before they end
abbrev pub invariant-loop-interval : goal.invariant-loop-interval
invariant-loop-interval l = record {
  end : l.interval-end ≡ intervals l.net;
  said : SaysByMilestones l.net (λ t. IsFixedBelow l.interval t × KeepsDates l.net t) l.orders.items;
}
