use Rattle.std.proofs.Common.{◌≡◌, ◌*◌, ◌<◌, ℕ, subst, sym, arith}
use Rattle.net_core.specs.Atoms.{IsInRange, Satisfies}
use Rattle.net_core.specs.Nets.{intervals, points}
use Rattle.net_core.specs.declared.atom.Atom.{Atom}
use Rattle.net_orders.specs.Dates.{ExtendsOrders}
use Rattle.net_orders.specs.Milestones.{SaysByMilestones}
use Rattle.net_orders.specs.Steps.{KeepsDates}
use Rattle.net_orders.proofs.MilestoneLaws.{no_span, span_more}
use Rattle.net_orders.proofs.Ordered.{IsFixedBelow}
use Rattle.net_orders.proofs.milestones.said_with_milestones.Goals as goal

pub loop-interval-init : goal.loop-interval-init
loop-interval-init c = record { end = c.intervals-interval-end.ensures.count; said = no_span c.args.net.now c.in_ok-orders.orders.items c.in_ok-orders.ensures }

pub loop-interval-preserved : goal.loop-interval-preserved
loop-interval-preserved c =
    let net = c.args.net.now in
    let i = c.loop-interval.interval in
    let old = c.loop-interval.orders.items in
    let said = c.loop-interval.invariant.said in
    let within : i < intervals net = omega (arith, c.loop-interval-test.true, c.loop-interval.invariant.end) in
    let range = subst (IsInRange (2 * points net)) (sym c.span_order.ensures) (omega arith, omega arith) in
    record {
      end = c.loop-interval.invariant.end;
      said = span_more net i old c.push.new.orders.items within said
          (subst (λ (order : Atom). ExtendsOrders (2 * points net) (λ t. Satisfies t order) old c.push.new.orders.items) c.span_order.ensures (c.in_ok-push.ensures (2 * points net) said.in_range range));
    }

pub returns : goal.returns
returns c =
    let net = c.args.net.now in
    let end : c.loop-interval.interval ≡ intervals net = omega (arith, c.loop-interval.invariant.end, c.loop-interval-test.false) in
    subst (λ (i : ℕ). SaysByMilestones net (λ t. IsFixedBelow i t × KeepsDates net t) c.loop-interval.orders.items) end c.loop-interval.invariant.said
