use Rattle.std.proofs.Common.{◌≡◌, arith}
use Rattle.net_orders.specs.declared.orders.Order.{Order}
use Rattle.tml_score.specs.Ends.{point_at_end}
use Rattle.tml_score.specs.Search.{basis_of}
use Rattle.tml_score.proofs.TieLaws.{among_all, range_at}
use Rattle.tml_score.proofs.ties.meet_all.Goals as goal

pub meet-requires-clause-point : goal.meet-requires-clause-point
meet-requires-clause-point c =
    let basis = basis_of c.args.kept.now in
    let by = c.args.onward.now in
    let items = c.of_point-order-items.result.now in
    let are = among_all basis (λ (o : Order). point_at_end by.by o ≡ c.args.point) by.items items c.requires.onward.0 c.of_point-order-items.ensures in
    let range = range_at basis c.requires.ready items c.loop-order.order-index are c.loop-order-test.true in
    omega (arith, range.1, c.loop-order.invariant.size)
