use Rattle.std.proofs.Common.{◌≡◌, ◌*◌, ◌<◌, ℕ, length, subst, arith}
use Rattle.std.proofs.lemmas.List.Elements.{All-get_or}
use Rattle.walks.specs.declared.dates.Date.{Date}
use Rattle.walks.proofs.DateLaws.{no_date}
use Rattle.net_orders.specs.Dates.{ExtendsOrders}
use Rattle.net_orders.specs.Milestones.{IsAtMost}
use Rattle.net_orders.proofs.CalendarOrders.{extends_more}
use Rattle.net_orders.proofs.Steps.{Below}
use Rattle.net_orders.proofs.milestones.push_milestones.Goals as goal

pub loop-lower-preserved : goal.loop-lower-preserved
loop-lower-preserved c =
    let n = c.args.points in
    let lowers = c.args.lowers.now in
    let k = c.loop-lower.lower-index in
    let lt : k < length lowers = omega (arith, c.loop-lower-test.true) in
    let within = All-get_or (λ (d : Date). d.point < n) lowers k no_date lt c.requires.below in
    extends_more (2 * n) (IsAtMost n lowers) k c.args.orders.now.items c.loop-lower.orders.items c.push.new.orders.items c.loop-lower.invariant
    (c.in_ok-push.ensures (2 * n) c.loop-lower.invariant.in_range (omega arith, omega arith))

pub returns : goal.returns
returns c =
    let lowers = c.args.lowers.now in
    let end : c.loop-lower.lower-index ≡ length lowers = omega arith in
    subst (λ (k : ℕ). ExtendsOrders (2 * c.args.points) (Below (IsAtMost c.args.points lowers) k) c.args.orders.now.items c.loop-lower.orders.items) end c.loop-lower.invariant
