use Rattle.std.proofs.Common.{◌≡◌, ◌<◌, List, length, ap, subst, arith}
use Rattle.std.proofs.lemmas.List.Elements.{All-get_or}
use Rattle.net_orders.specs.declared.orders.Order.{Order}
use Rattle.tml_score.specs.Ends.{far_end_of}
use Rattle.tml_score.specs.Search.{basis_of}
use Rattle.tml_score.specs.Tree.{IsBranch, no_order, order_at}
use Rattle.tml_score.proofs.TieLaws.{far_within}
use Rattle.tml_score.proofs.tree.Tree.go_on.Goals as goal

pub spread-requires-clause-point : goal.spread-requires-clause-point
spread-requires-clause-point c =
    let basis = basis_of c.args.kept.now in
    let tree = c.loop-turn.self in
    let orders = tree.orders.items in
    let turn = c.loop-turn.turn in
    let here = c.in-Some.ensures.lookup.3 in
    let is = c.deref.ensures.value in
    let lt : turn < length orders = subst (λ (xs : List Order). turn < length xs) is here.0 in
    let at : c.in-Some.field-0.now ≡ order_at orders turn = subst (λ (xs : List Order). c.in-Some.field-0.now ≡ order_at xs turn) is (here.1 no_order) in
    let branch = All-get_or (IsBranch basis tree.in_use.items) orders turn no_order lt c.loop-turn.invariant.branches in
    let range = far_within basis c.requires.ready tree.near (order_at orders turn) branch.of_net in
    let same = ap (λ (o : Order). far_end_of tree.near o) at in
    omega (arith, range, c.across-point.ensures, same)
