use Rattle.std.proofs.Common.{◌≡◌, ◌*◌, ◌<◌, ℕ, length, get_or, subst, arith}
use Rattle.std.specs.List.{All}
use Rattle.std.proofs.lemmas.List.Elements.{All-get_or}
use Rattle.walks.specs.declared.dates.Date.{Date}
use Rattle.walks.proofs.DateLaws.{no_date}
use Rattle.net_orders.specs.Dates.{ExtendsOrders}
use Rattle.net_orders.specs.Milestones.{ArePlacedBefore}
use Rattle.net_orders.proofs.CalendarOrders.{extends_more, extends_same}
use Rattle.net_orders.proofs.Steps.{Below, all_below}
use Rattle.net_orders.proofs.milestones.push_uppers.Goals as goal

pub push_upper-requires-clause-upper : goal.push_upper-requires-clause-upper
push_upper-requires-clause-upper c = All-get_or (λ (d : Date). d.point < c.args.points) c.args.uppers.now c.loop-upper.upper-index no_date (omega (arith, c.loop-upper-test.true)) c.requires.uppers

pub loop-upper-preserved : goal.loop-upper-preserved
loop-upper-preserved c =
    let n = c.args.points in
    let uppers = c.args.uppers.now in
    extends_more (2 * n) (λ (k : ℕ). ArePlacedBefore n c.args.lowers.now (get_or uppers k no_date)) c.loop-upper.upper-index c.args.orders.now.items c.loop-upper.orders.items c.push_upper.new.orders.items
    c.loop-upper.invariant c.in_ok-push_upper.ensures

pub returns : goal.returns
returns c =
    let n = c.args.points in
    let uppers = c.args.uppers.now in
    let Each = λ (upper : Date). ArePlacedBefore n c.args.lowers.now upper in
    let end : c.loop-upper.upper-index ≡ length uppers = omega arith in
    extends_same (2 * n) (Below (λ (k : ℕ). Each (get_or uppers k no_date)) (length uppers)) (λ t. All (λ (upper : Date). Each upper t) uppers) c.args.orders.now.items c.loop-upper.orders.items
    (λ t all. all_below Each uppers no_date t)
    (subst (λ (k : ℕ). ExtendsOrders (2 * n) (Below (λ (j : ℕ). Each (get_or uppers j no_date)) k) c.args.orders.now.items c.loop-upper.orders.items) end c.loop-upper.invariant)
