use Rattle.std.proofs.Common.{◌*◌}
use Rattle.net_orders.specs.Dates.{ExtendsOrders}
use Rattle.net_orders.specs.Milestones.{IsAtMost}
use Rattle.net_orders.proofs.Steps.{Below}
use Rattle.net_orders.proofs.milestones.push_milestones.Given as goal

-- the milestones so far are no later than their points
abbrev pub invariant-loop-lower : goal.invariant-loop-lower
invariant-loop-lower l = ExtendsOrders (2 * l.points) (Below (IsAtMost l.points l.lowers) l.lower-index) l.fn.orders.items l.orders.items
