use Rattle.order_closure.proofs.OrderBits.{point_bit}
use Rattle.order_closure.proofs.between.two_bits.Goals as goal

pub returns-clause-bits : goal.returns-clause-bits
returns-clause-bits c = point_bit c.args.row.now c.args.interval
