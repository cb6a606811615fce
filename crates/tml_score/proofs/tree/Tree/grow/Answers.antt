use Rattle.std.proofs.Common.{sym, subst}
use Rattle.std.specs.List.{Contains}
use Rattle.std.proofs.lemmas.List.Elements.{All-get_or}
use Rattle.tml_score.specs.Search.{basis_of}
use Rattle.tml_score.specs.Ties.{AreOrders}
use Rattle.tml_score.specs.Tree.{no_order}
use Rattle.tml_score.proofs.tree.Tree.grow.Goals as goal

pub reach-requires-clause-order : goal.reach-requires-clause-order
reach-requires-clause-order c =
    let items = c.deref-order-items.result.now in
    All-get_or (Contains c.args.kept.now.graph.now.onward.items) items c.loop-order.order-index no_order c.loop-order-test.true (subst (AreOrders (basis_of c.args.kept.now)) (sym c.deref-order-items.ensures.value) c.requires.ties.orders)
