use Rattle.std.proofs.Common.{◌∙◌, List, subst}
use Rattle.std.specs.List.Sorted.{IsPermutation}
use Rattle.net_orders.specs.declared.orders.Order.{Order}
use Rattle.tml_score.specs.Search.{basis_of}
use Rattle.tml_score.proofs.TieLaws.{orders_by}
use Rattle.tml_score.proofs.ties.Ties.new.Goals as goal

pub roots_of-requires-clause-onward : goal.roots_of-requires-clause-onward
roots_of-requires-clause-onward c =
    let orders = c.in_ok-orders.orders.items in
    let by = c.in_ok-onward.onward in
    orders_by (basis_of c.args.kept.now) c.requires orders by c.in_ok-orders.ensures (c.in_ok-onward.ensures.points ∙ c.points-points.ensures.points)
    (subst (λ (os : List Order). IsPermutation os by.items) c.deref.ensures.value c.in_ok-onward.ensures.orders)

pub returns : goal.returns
returns c =
    let basis = basis_of c.args.kept.now in
    let orders = c.in_ok-orders.orders.items in
    let onward = c.in_ok-onward.onward in
    let back = c.in_ok-back.back in
    record {
      orders = c.in_ok-orders.ensures;
      onward = orders_by basis c.requires orders onward c.in_ok-orders.ensures (c.in_ok-onward.ensures.points ∙ c.points-points.ensures.points)
          (subst (λ (os : List Order). IsPermutation os onward.items) c.deref.ensures.value c.in_ok-onward.ensures.orders);
      back = orders_by basis c.requires orders back c.in_ok-orders.ensures (c.in_ok-back.ensures.points ∙ c.points-points.ensures.points)
          (subst (λ (os : List Order). IsPermutation os back.items) c.deref-2.ensures.value c.in_ok-back.ensures.orders);
      roots = c.in_ok-roots.ensures;
    }
