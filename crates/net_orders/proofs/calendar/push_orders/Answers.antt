use Rattle.std.proofs.Common.{◌≡◌, FitsSigned, w64, arith, rules}
use Rattle.std.proofs.lemmas.Int.{ints}
use Rattle.std.proofs.lemmas.List.Elements.{All-contains}
use Rattle.std.proofs.lemmas.Result.{on_ok_weaker}
use Rattle.net_core.specs.Nets.{lower, points}
use Rattle.walks.specs.Dates.{IsDateOfPoint}
use Rattle.net_orders.proofs.CalendarOrders.{same_as_last}
use Rattle.net_orders.proofs.calendar.push_orders.Goals as goal

pub returns-in-Some : goal.returns-in-Some
returns-in-Some c =
    let known = rw c.in-Some.is at c.requires.last in
    let fits : FitsSigned w64 c.args.upper.number = search rules in
    let fits_too : FitsSigned w64 c.in-Some.fixed.number = search rules in
    let same : c.in-Some.fixed.number ≡ c.args.upper.number = grind (arith, ints) in
    let within = (All-contains (IsDateOfPoint (lower c.args.net.now) (points c.args.net.now)) c.args.lowers.now c.in-Some.fixed c.requires.next.dates.right known.0).0 in
    on_ok_weaker c.push_order.result (λ pushed. same_as_last c.args.net.now c.args.upper c.in-Some.fixed c.args.lowers.now c.args.orders.now.items c.push_order.new.orders.items
    same known.0 known.1 (pushed (points c.args.net.now) c.requires.next.in_range c.requires.next.point within)) c.push_order.ensures
