use Rattle.std.proofs.Common.{◌≡◌, ◌++◌, ◌∷◌, [], List, slice_index_or, ap, sym, subst, arith, rules}
use Rattle.std.specs.List.{All, Contains}
use Rattle.std.proofs.lemmas.List.Elements.{All-contains_itself, All-get_or, All-push}
use Rattle.net_orders.specs.declared.orders.Order.{Order}
use Rattle.tml_score.specs.Search.{Basis, basis_of}
use Rattle.tml_score.specs.Ties.{AreOrders}
use Rattle.tml_score.specs.Tree.{no_order}
use Rattle.tml_score.proofs.TieLaws.{range_at}
use Rattle.tml_score.proofs.ties.ties_of.Goals as goal
use Rattle.tml_score.proofs.ties.ties_of.Goals.{then-not-apart+in_ok-push, else-not-apart}

-- the orders that are taken are all orders of the net
are_orders : (basis : Basis) (items : List Order) → items ≡ basis.graph.onward.items → AreOrders basis items
are_orders basis items same = subst (All (Contains basis.graph.onward.items)) (sym same) (All-contains_itself basis.graph.onward.items)

pub cell-requires-clause-i : goal.cell-requires-clause-i
cell-requires-clause-i c =
    let basis = basis_of c.args.kept.now in
    let items = c.items-order-items.result.now in
    let range = range_at basis c.requires items c.loop-order.order-index (are_orders basis items c.items-order-items.ensures) c.loop-order-test.true in
    omega (arith, range.1, c.requires.closure.size)

pub cell-requires-clause-j : goal.cell-requires-clause-j
cell-requires-clause-j c =
    let basis = basis_of c.args.kept.now in
    let items = c.items-order-items.result.now in
    let range = range_at basis c.requires items c.loop-order.order-index (are_orders basis items c.items-order-items.ensures) c.loop-order-test.true in
    omega (arith, range.0, c.requires.closure.size)

pub loop-order-preserved : goal.loop-order-preserved
loop-order-preserved c =
    let orders = c.args.kept.now.graph.now.onward.items in
    let items = c.items-order-items.result.now in
    let o = slice_index_or items c.loop-order.order-index no_order in
    let all = are_orders (basis_of c.args.kept.now) items c.items-order-items.ensures in
    let among : Contains orders o = All-get_or (Contains orders) items c.loop-order.order-index no_order c.loop-order-test.true all in
    elim c.if-not-apart.branch [
      | then-not-apart+in_ok-push w ↦
          let pushed : c.if-not-apart.ties.items ≡ c.loop-order.ties.items ++ o ∷ [] = search rules in
          subst (All (Contains orders)) (sym pushed) (All-push (Contains orders) c.loop-order.ties.items o c.loop-order.invariant among)
      | else-not-apart w ↦ subst (λ v. All (Contains orders) v) (sym (ap (λ v. v.items) w.ties-is)) c.loop-order.invariant
    ]
