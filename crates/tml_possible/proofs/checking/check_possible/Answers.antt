use Rattle.std.specs.List.{All}
use Rattle.net_core.specs.BaseRelations.{base_rels}
use Rattle.tml_possible.specs.Possible.{AreSome, IsTrueItem, rels_of}
use Rattle.tml_possible.proofs.Lists.{both_true}
use Rattle.tml_possible.proofs.checking.check_possible.Goals as goal

pub returns : goal.returns
returns c = both_true c.are_in_order-ordered.result c.are_true_items.result (AreSome (rels_of c.args.list.now) base_rels) (All (IsTrueItem c.args.net.now c.args.a c.args.b) c.args.list.now)
    c.are_in_order-ordered.ensures c.are_true_items.ensures
