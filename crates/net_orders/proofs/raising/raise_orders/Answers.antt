use Rattle.std.proofs.Common.{◌<◌, ℕ, length, get_or, subst, sym, arith}
use Rattle.std.proofs.lemmas.List.Elements.{All-get_or}
use Rattle.net_core.specs.Atoms.{IsInRange}
use Rattle.net_orders.specs.Orders.{AllAreTrueBut, IsTrueBut}
use Rattle.net_orders.specs.declared.orders.Order.{Order}
use Rattle.net_orders.proofs.Ordered.{no_order}
use Rattle.net_orders.proofs.Rising.{rises_all, rises_more}
use Rattle.net_orders.proofs.Steps.{all_below}
use Rattle.net_orders.proofs.raising.raise_orders.Goals as goal

pub raise_order-requires : goal.raise_order-requires
raise_order-requires c =
    let n = length c.args.ranks.now in
    let lt : c.loop-order.order-index < length c.args.orders.now = omega (arith, c.loop-order-test.true) in
    record {
      in_range = subst (λ (m : ℕ). IsInRange m (get_or c.args.orders.now c.loop-order.order-index no_order).atom) (sym c.loop-order.invariant.rises.size)
          (All-get_or (λ (o : Order). IsInRange n o.atom) c.args.orders.now c.loop-order.order-index no_order lt c.requires.in_range);
      within = c.loop-order.invariant.rises.within c.requires.within;
    }

pub loop-order-preserved : goal.loop-order-preserved
loop-order-preserved c =
    rises_more (λ k t. IsTrueBut c.args.omitted (get_or c.args.orders.now k no_order) t) c.loop-order.order-index c.args.ranks.now c.loop-order.ranks c.raise_order.new.ranks
    c.loop-order.invariant c.raise_order.ensures

pub returns : goal.returns
returns c =
    rises_all (λ k t. IsTrueBut c.args.omitted (get_or c.args.orders.now k no_order) t) (AllAreTrueBut c.args.omitted c.args.orders.now) c.loop-order.order-index (length c.args.orders.now)
    c.args.ranks.now c.loop-order.ranks (omega arith) (all_below (IsTrueBut c.args.omitted) c.args.orders.now no_order) c.loop-order.invariant
