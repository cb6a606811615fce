use Rattle.std.proofs.Common.{◌<◌, List, length, get_or, sym, subst, arith}
use Rattle.std.proofs.lemmas.List.Elements.{All-get_or}
use Rattle.net_core.specs.Nets.{points, upper}
use Rattle.walks.specs.Dates.{AreDates, AreDescending, IsDateOfPoint}
use Rattle.walks.specs.declared.dates.Date.{Date}
use Rattle.walks.proofs.DateLaws.{no_date}
use Rattle.net_orders.specs.Dates.{ExtendsWithSpans, FollowsAll, IsNextUpper, PutsLastBefore}
use Rattle.net_orders.proofs.CalendarOrders.{calendar_said, greater_said, last_kept, last_said, said_more}
use Rattle.net_orders.proofs.calendar.calendar_orders.Goals as goal
use Rattle.net_orders.proofs.calendar.calendar_orders.Goals.{After-deref-upper-items, else-is_fixed, then-is_fixed}

-- the points with upper numbers
up : (c : After-deref-upper-items) → AreDates (upper c.args.net.now) (points c.args.net.now) c.deref-upper-items.result.now
up c = subst (AreDates (upper c.args.net.now) (points c.args.net.now)) (sym c.deref-upper-items.ensures.value) c.in_ok-uppers.ensures.dates

pub push_orders-requires-clause-last : goal.push_orders-requires-clause-last
push_orders-requires-clause-last c =
    subst (λ (lowers : List Date). PutsLastBefore c.args.net.now lowers c.loop-upper.orders.items c.loop-upper.last) (sym c.deref.ensures.value) c.loop-upper.invariant.last

pub push_orders-requires-clause-next : goal.push_orders-requires-clause-next
push_orders-requires-clause-next c =
    let net = c.args.net.now in
    let uppers = c.deref-upper-items.result.now in
    let orders = c.loop-upper.orders.items in
    let k = c.loop-upper.upper-index in
    let all_up = up (goal.at.push_orders-requires-clause-next c).After-deref-upper-items in
    let lt : k < length uppers = omega (arith, c.loop-upper-test.true) in
    subst (λ (lowers : List Date). IsNextUpper net lowers orders (get_or uppers k no_date)) (sym c.deref.ensures.value) record {
      point = (All-get_or (IsDateOfPoint (upper net) (points net)) uppers k no_date lt all_up.right).0;
      dates = c.in_ok-lowers.ensures.dates;
      sorted = c.in_ok-lowers.ensures.sorted;
      in_range = c.loop-upper.invariant.in_range;
      above = greater_said net uppers c.in_ok-lowers.lowers.items all_up c.in_ok-lowers.ensures.dates orders k c.loop-upper.invariant.said
          (subst AreDescending (sym c.deref-upper-items.ensures.value) c.in_ok-uppers.ensures.sorted) lt;
    }

pub loop-upper-preserved : goal.loop-upper-preserved
loop-upper-preserved c =
    let net = c.args.net.now in
    let uppers = c.deref-upper-items.result.now in
    let lowers = c.in_ok-lowers.lowers.items in
    let orders = c.loop-upper.orders.items in
    let next = c.push_orders.new.orders.items in
    let k = c.loop-upper.upper-index in
    let low = c.in_ok-lowers.ensures.dates in
    let said = c.loop-upper.invariant.said in
    let all_up = up (goal.at.loop-upper-preserved c).After-deref-upper-items in
    let lt : k < length uppers = omega (arith, c.loop-upper-test.true) in
    let more = subst (λ (all : List Date). ExtendsWithSpans net (FollowsAll all (get_or uppers k no_date)) orders next) c.deref.ensures.value c.in_ok-push_orders.ensures in
    record {
      in_range = more.in_range;
      said = said_more net uppers lowers all_up low orders k said next more;
      last = elim c.if-is_fixed.branch [
        | then-is_fixed w ↦
            subst (PutsLastBefore net lowers next) (sym w.last-is)
            (last_said net uppers lowers all_up low orders k said next more lt (c.is_fixed.ensures.0 w.if-is_fixed.true))
        | else-is_fixed w ↦
            subst (PutsLastBefore net lowers next) (sym w.last-is)
            (last_kept net uppers lowers all_up low orders k said next more c.loop-upper.last c.loop-upper.invariant.last)
      ];
    }

pub returns-clause-exact : goal.returns-clause-exact
returns-clause-exact c =
    calendar_said c.args.net.now c.deref-upper-items.result.now c.in_ok-lowers.lowers.items (up (goal.at.returns-clause-exact c).After-deref-upper-items) c.in_ok-lowers.ensures.dates c.loop-upper.orders.items c.loop-upper.upper-index
    c.loop-upper.invariant.said (omega arith)
