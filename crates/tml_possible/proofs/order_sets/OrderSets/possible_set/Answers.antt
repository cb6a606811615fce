use Rattle.tml_possible.proofs.Growing.{not_denied_set}
use Rattle.tml_possible.proofs.EightOrders.{sets_joined}
use Rattle.tml_possible.proofs.order_sets.OrderSets.possible_set.Goals as goal

pub returns : goal.returns
returns c =
    let starts = c.requires.starts in
    not_denied_set c.args.closed.now c.args.a c.args.b c.orders_between-given.result _ c.points.ensures.closed c.orders_between-given.ensures c.requires.a c.requires.b
    (starts c.args.a c.requires.a) (starts c.args.b c.requires.b) (sets_joined c.args.self.now c.requires.sets c.orders_between-given.result)
