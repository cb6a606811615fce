use Rattle.std.proofs.Common.{◌≡◌, ◌↔◌, ℕ, ◌<◌, List, length, get_or, subst, sym, arith}
use Rattle.std.proofs.lemmas.List.Elements.{All-get_or}
use Rattle.net_core.specs.Atoms.{IsInRange}
use Rattle.net_core.specs.Relations.{Timeline}
use Rattle.net_core.specs.declared.atom.Atom.{Atom}
use Rattle.order_closure.specs.Tables.{AreInRange, SatisfiesAll}
use Rattle.net_orders.specs.Orders.{IsTrueBut}
use Rattle.net_orders.specs.declared.orders.Order.{Order}
use Rattle.net_orders.proofs.CalendarOrders.{extends_more}
use Rattle.net_orders.proofs.Ordered.{no_order}
use Rattle.net_orders.proofs.Steps.{Below, all_below}
use Rattle.net_orders.proofs.orders.orders_but.Goals as goal

pub loop-order-init : goal.loop-order-init
loop-order-init c =
    let same = c.in_ok-left.ensures.items in
    record {
      in_range = subst (AreInRange c.args.points) (sym same) c.requires.fixed;
      exact = λ t. (
        λ all. (subst (λ (xs : List Atom). SatisfiesAll xs t) same all, λ j lt. absurd (omega arith)),
        λ both. subst (λ (xs : List Atom). SatisfiesAll xs t) (sym same) both.0,
      );
    }

pub loop-order-preserved : goal.loop-order-preserved
loop-order-preserved c =
    let orders = c.args.orders.now in
    let k = c.loop-order.order-index in
    let lt : k < length orders = omega (arith, c.loop-order-test.true) in
    extends_more c.args.points (λ j t. IsTrueBut c.args.omitted (get_or orders j no_order) t) k c.args.fixed.now c.loop-order.left.items c.push_unless.new.left.items c.loop-order.invariant
    (c.in_ok-push_unless.ensures c.args.points c.loop-order.invariant.in_range (All-get_or (λ (o : Order). IsInRange c.args.points o.atom) orders k no_order lt c.requires.orders))

pub returns-clause-exact : goal.returns-clause-exact
returns-clause-exact c t =
    let orders = c.args.orders.now in
    let Each = λ (j : ℕ) (u : Timeline). IsTrueBut c.args.omitted (get_or orders j no_order) u in
    let end : c.loop-order.order-index ≡ length orders = omega arith in
    let exact = subst (λ (n : ℕ). SatisfiesAll c.loop-order.left.items t ↔ (SatisfiesAll c.args.fixed.now t × Below Each n t)) end (c.loop-order.invariant.exact t) in
    let each = all_below (IsTrueBut c.args.omitted) orders no_order t in (
      λ all. let both = exact.0 all in record { held = each.0 both.1; kept = both.0 },
      λ fits. exact.1 (fits.kept, each.1 fits.held),
    )
