use Rattle.order_closure.proofs.OrderBits.{both_ways_given}
use Rattle.order_closure.proofs.between.orders_between.Goals as goal

pub returns : goal.returns
returns c = both_ways_given c.args.closed.now c.args.a c.args.b c.one_way-2.result c.one_way.result
    (record { small = c.one_way-2.ensures.small; weak = c.one_way-2.ensures.weak; strict = c.one_way-2.ensures.strict })
    (record { small = c.one_way.ensures.small; weak = c.one_way.ensures.weak; strict = c.one_way.ensures.strict })
