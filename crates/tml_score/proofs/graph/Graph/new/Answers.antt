use Rattle.std.proofs.Common.{◌≡◌, List, subst, arith, rules}
use Rattle.std.specs.List.Sorted.{IsPermutation}
use Rattle.net_orders.specs.declared.orders.Order.{Order}
use Rattle.tml_score.proofs.GraphLaws.{same_orders_of}
use Rattle.tml_score.proofs.graph.Graph.new.Goals as goal

pub returns : goal.returns
returns c =
    let onward = c.in_ok-onward.onward in
    let back = c.in_ok-back in
    let all : c.items.result.now ≡ onward.items = search rules in
    record {
      orders = same_orders_of c.args.net.now c.in_ok-orders.orders.items onward.items c.in_ok-orders.ensures c.in_ok-onward.ensures.items;
      leave = c.in_ok-onward.ensures.by;
      onward_points = omega (arith, c.in_ok-onward.ensures.points, c.intervals-points.ensures.count);
      same = subst (λ (orders : List Order). IsPermutation orders back.back.items) all back.ensures.orders;
      lead = back.ensures.end;
      back_points = omega (arith, back.ensures.points, c.intervals-points.ensures.count);
    }
