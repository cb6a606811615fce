use Rattle.std.proofs.Common.{◌*◌, get_or}
use Rattle.walks.proofs.DateLaws.{no_date}
use Rattle.net_orders.specs.Dates.{ExtendsOrders}
use Rattle.net_orders.specs.Milestones.{ArePlacedBefore}
use Rattle.net_orders.proofs.Steps.{Below}
use Rattle.net_orders.proofs.milestones.push_uppers.Given as goal

-- the points with upper numbers so far are in order with the milestones
abbrev pub invariant-loop-upper : goal.invariant-loop-upper
invariant-loop-upper l = ExtendsOrders (2 * l.points) (Below (λ k. ArePlacedBefore l.points l.lowers (get_or l.uppers k no_date)) l.upper-index) l.fn.orders.items l.orders.items
