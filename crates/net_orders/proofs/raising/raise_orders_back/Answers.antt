use Rattle.std.proofs.Common.{ℕ, ◌-◌, ◌<◌, length, take, get_or, subst, sym, arith}
use Rattle.std.proofs.lemmas.List.{length-take-le}
use Rattle.std.proofs.lemmas.List.Elements.{All-get_or}
use Rattle.net_core.specs.Atoms.{IsInRange}
use Rattle.net_core.specs.Relations.{Timeline}
use Rattle.net_orders.specs.Orders.{AllAreTrueBut, IsTrueBut}
use Rattle.net_orders.specs.Raising.{RisesUntil}
use Rattle.net_orders.specs.declared.orders.Order.{Order}
use Rattle.net_orders.proofs.Ordered.{no_order}
use Rattle.net_orders.proofs.Rising.{left_less, rises_all_back, rises_more_back}
use Rattle.net_orders.proofs.Steps.{all_below}
use Rattle.net_orders.proofs.raising.raise_orders_back.Goals as goal

pub raise_order-requires : goal.raise_order-requires
raise_order-requires c =
    let orders = c.args.orders.now in
    let size = length c.loop-rest.rest.now in
    let some = c.in-len1-up.len_at_least in
    let lt : size - 1 < length orders = omega (arith, c.loop-rest.invariant.within) in
    record {
      in_range = subst (λ (n : ℕ). IsInRange n (get_or c.loop-rest.rest.now (size - 1) no_order).atom) (sym c.loop-rest.invariant.so_far.rises.size)
          (subst (λ (o : Order). IsInRange (length c.args.ranks.now) o.atom) (sym (c.loop-rest.invariant.left (size - 1) (omega arith)))
          (All-get_or (λ (o : Order). IsInRange (length c.args.ranks.now) o.atom) orders (size - 1) no_order lt c.requires.in_range));
      within = c.loop-rest.invariant.so_far.rises.within c.requires.within;
    }

pub loop-rest-preserved : goal.loop-rest-preserved
loop-rest-preserved c =
    let orders = c.args.orders.now in
    let rest = c.loop-rest.rest.now in
    let size = length rest in
    let some = c.in-len1-up.len_at_least in
    let less = length-take-le (size - 1) rest (omega arith) in
    let Each = λ (k : ℕ) (t : Timeline). IsTrueBut c.args.omitted (get_or orders k no_order) t in
    record {
      within = omega (arith, c.loop-rest.invariant.within);
      left = left_less rest orders no_order c.loop-rest.invariant.left;
      so_far = rises_more_back Each (length orders) size (length (take (size - 1) rest)) c.args.ranks.now c.loop-rest.ranks c.raise_order.new.ranks
          (omega arith) c.loop-rest.invariant.within c.loop-rest.invariant.so_far
          (subst (λ (k : ℕ). RisesUntil (Each k) c.loop-rest.ranks c.raise_order.new.ranks) (sym less)
          (subst (λ (order : Order). RisesUntil (IsTrueBut c.args.omitted order) c.loop-rest.ranks c.raise_order.new.ranks) (c.loop-rest.invariant.left (size - 1) (omega arith)) c.raise_order.ensures));
    }

pub returns : goal.returns
returns c =
    let orders = c.args.orders.now in
    rises_all_back (λ k t. IsTrueBut c.args.omitted (get_or orders k no_order) t) (AllAreTrueBut c.args.omitted orders) (length c.loop-rest.rest.now) (length orders)
    c.args.ranks.now c.loop-rest.ranks (omega (arith, c.in_default.len_below)) (all_below (IsTrueBut c.args.omitted) orders no_order) c.loop-rest.invariant.so_far
