use Rattle.std.proofs.Common.{◌≡◌, ◌+◌, ◌<◌, ℕ, ℤ, ◌≤ℤ◌, FitsSigned, of_z, to_z, w64, List, length, get_or, Option, IfSome, sym, subst, arith, rules}
use Rattle.std.proofs.lemmas.Int.{ints, to_z-of_z}
use Rattle.net_core.specs.Nets.{points}
use Rattle.net_core.specs.Relations.{Timeline}
use Rattle.walks.specs.Dates.{AreDatesFrom}
use Rattle.walks.specs.declared.dates.Date.{Date}
use Rattle.walks.proofs.DateLaws.{no_date}
use Rattle.net_orders.specs.Dates.{ExtendsOrders, FollowsDate, FollowsAll, end_after}
use Rattle.net_orders.proofs.CalendarOrders.{PutsRest, all_later, earlier_holds, extends_more, extends_with_spans, from_number, later_within, puts_rest, rest_more, up_to_end}
use Rattle.net_orders.proofs.Steps.{Below}
use Rattle.net_orders.proofs.calendar.push_orders_from.Goals as goal
use Rattle.net_orders.proofs.calendar.push_orders_from.Goals.{After-push_order}

-- a date follows
abbrev each : Date → List Date → ℕ → Timeline → Type 0
each upper later k t = FollowsDate upper (get_or later k no_date) t

-- the dates are those of the list from the number on
from_upper : (lowers later : List Date) (number : ℤ) → FitsSigned w64 number → AreDatesFrom (to_z w64 (of_z w64 number)) lowers later → AreDatesFrom number lowers later
from_upper lowers later number fits are = subst (λ (x : ℤ). AreDatesFrom x lowers later) (to_z-of_z w64 number fits) are

-- the date of this turn is of a point of the net
of_net : (c : After-push_order) → (get_or c.dates_from-later.result.now c.loop-lower.lower-index no_date).point < points c.args.net.now
of_net c =
    (later_within c.args.net.now c.args.lowers.now c.dates_from-later.result.now c.args.upper.number c.loop-lower.lower-index c.requires.dates
    (from_upper c.args.lowers.now c.dates_from-later.result.now c.args.upper.number (search rules) c.dates_from-later.ensures.dates) (omega (arith, c.loop-lower-test.true))).1

pub end_after-requires : goal.end_after-requires
end_after-requires c = of_net (goal.at.end_after-requires c).After-push_order

pub loop-lower-preserved : goal.loop-lower-preserved
loop-lower-preserved c =
    let net = c.args.net.now in
    let upper = c.args.upper in
    let lowers = c.args.lowers.now in
    let later = c.dates_from-later.result.now in
    let old = c.args.orders.now.items in
    let k = c.loop-lower.lower-index in
    let lt : k < length later = omega (arith, c.loop-lower-test.true) in
    let fits : FitsSigned w64 upper.number = search rules in
    let Rest = PutsRest net lowers old upper later (k + 1) in
    record {
      pushed = extends_more (points net) (each upper later) k old c.loop-lower.orders.items c.push_order.new.orders.items c.loop-lower.invariant.pushed
          (c.in_ok-push_order.ensures (points net) c.loop-lower.invariant.pushed.in_range c.requires.point (of_net (goal.at.loop-lower-preserved c).After-push_order));
      rest = subst (λ (end : Option ℤ). IfSome end Rest) (sym c.earlier-first_end.ensures)
          (earlier_holds Rest c.loop-lower.first_end c.end_after.result (rest_more net lowers old upper later k c.loop-lower.first_end c.loop-lower.invariant.rest)
          (subst (λ (end : Option ℤ). IfSome end Rest) (sym c.end_after.ensures)
          (subst (λ (x : ℤ). IfSome (end_after net (get_or later k no_date).point x) Rest) (sym (to_z-of_z w64 upper.number fits))
          (puts_rest net upper lowers later old c.requires.dates c.requires.above (from_upper lowers later upper.number fits c.dates_from-later.ensures.dates) k lt))));
    }

pub returns-then-has_ended : goal.returns-then-has_ended
returns-then-has_ended c =
    let net = c.args.net.now in
    let upper = c.args.upper in
    let lowers = c.args.lowers.now in
    let later = c.dates_from-later.result.now in
    let old = c.args.orders.now.items in
    let k = c.loop-lower.lower-index in
    let lt : k < length later = omega (arith, c.loop-lower-test.true) in
    let fits : FitsSigned w64 upper.number = search rules in
    let fits_too : FitsSigned w64 (get_or later k no_date).number = search rules in
    from_number _ (PutsRest net lowers old upper later k) c.loop-lower.first_end (c.has_ended.ensures.0 c.if-has_ended.true) c.loop-lower.invariant.rest (λ end reached rest.
    let le : end ≤ℤ (get_or later k no_date).number = omega (arith, ints) in
    extends_with_spans net (Below (each upper later) k) (FollowsAll lowers upper) old c.loop-lower.orders.items
    (λ t spans all. up_to_end net upper lowers later old k end t (from_upper lowers later upper.number fits c.dates_from-later.ensures.dates) c.dates_from-later.ensures.sorted lt le rest spans all)
    c.loop-lower.invariant.pushed)

pub returns : goal.returns
returns c =
    let dates = c.dates_from-later.result.now in
    let end : c.loop-lower.lower-index ≡ length dates = omega arith in
    extends_with_spans c.args.net.now (Below (each c.args.upper dates) (length dates)) (FollowsAll c.args.lowers.now c.args.upper) c.args.orders.now.items c.loop-lower.orders.items
    (λ t spans all. all_later c.args.upper c.args.lowers.now dates t (from_upper c.args.lowers.now dates c.args.upper.number (search rules) c.dates_from-later.ensures.dates))
    (subst (λ (n : ℕ). ExtendsOrders (points c.args.net.now) (Below (each c.args.upper dates) n) c.args.orders.now.items c.loop-lower.orders.items) end c.loop-lower.invariant.pushed)
