use Rattle.std.proofs.Common.{◌≡◌, ◌<◌, List, length, inr, sym, ap, subst, ◌∙◌}
use Rattle.std.proofs.lemmas.Bool.{OnTrue_from, eqb-true}
use Rattle.net_orders.specs.declared.orders.Order.{Order}
use Rattle.tml_score.specs.Ends.{far_end_of}
use Rattle.tml_score.specs.Tree.{IsCovered, no_order, order_at}
use Rattle.tml_score.proofs.tree.Tree.covers.Goals as goal

pub returns-in-Some : goal.returns-in-Some
returns-in-Some c =
    let tree = c.args.self.now in
    let turn = c.index-turn.result.now in
    let here = c.in-Some.ensures.lookup.3 in
    let orders = c.deref.ensures.value in
    let lt : turn < length tree.orders.items = subst (λ (xs : List Order). turn < length xs) orders here.0 in
    let at : c.in-Some.order.now ≡ order_at tree.orders.items turn = subst (λ (xs : List Order). c.in-Some.order.now ≡ order_at xs turn) orders (here.1 no_order) in
    OnTrue_from _ (IsCovered c.args.ties.now.roots.items tree c.args.turns c.args.point)
    (λ is. inr (turn, c.if-turns-turn.false, lt, ap (far_end_of tree.near) (sym at) ∙ sym c.across.ensures ∙ eqb-true c.across.result c.args.point is))
