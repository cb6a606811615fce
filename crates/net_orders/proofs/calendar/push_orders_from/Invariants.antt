use Rattle.std.proofs.Common.{IfSome, get_or}
use Rattle.net_core.specs.Nets.{points}
use Rattle.walks.proofs.DateLaws.{no_date}
use Rattle.net_orders.specs.Dates.{ExtendsOrders, FollowsDate}
use Rattle.net_orders.proofs.CalendarOrders.{PutsRest}
use Rattle.net_orders.proofs.Steps.{Below}
use Rattle.net_orders.proofs.calendar.push_orders_from.Given as goal

-- the orders of the dates so far are pushed, and from the first end on the rest follow
abbrev pub invariant-loop-lower : goal.invariant-loop-lower
invariant-loop-lower l = record {
  pushed : ExtendsOrders (points l.net) (Below (λ k. FollowsDate l.upper (get_or l.later k no_date)) l.lower-index) l.fn.orders.items l.orders.items;
  rest : IfSome l.first_end (PutsRest l.net l.lowers l.fn.orders.items l.upper l.later l.lower-index);
}
