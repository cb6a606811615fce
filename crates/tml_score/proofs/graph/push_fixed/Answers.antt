use Rattle.std.proofs.Common.{◌≡◌, ℕ, ◌+◌, false, None, get_or, length, subst, arith}
use Rattle.tml_score.specs.Graph.{AddsOrders, IsFixedOrder}
use Rattle.tml_score.proofs.GraphLaws.{IsAt, OfFirst, adds_none, adds_same, adds_then, all_at, of_first_more}
use Rattle.tml_score.proofs.graph.push_fixed.Goals as goal

pub loop-atom-init : goal.loop-atom-init
loop-atom-init c = adds_none (OfFirst (IsAt c.args.fixed.now None) 0) c.args.orders.now.items (λ o h. let lt = h.1 in omega arith)

pub loop-atom-preserved : goal.loop-atom-preserved
loop-atom-preserved c =
    let fixed = c.args.fixed.now in
    let i = c.loop-atom.atom-index in
    let mid = c.loop-atom.orders.items in
    let new = c.push_order.new.orders.items in
    adds_then (OfFirst (IsAt fixed None) i) (IsAt fixed None i) (OfFirst (IsAt fixed None) (i + 1)) c.args.orders.now.items mid new (of_first_more (IsAt fixed None) i) c.loop-atom.invariant
    (adds_same (λ o. o ≡ record { atom = get_or fixed i (record { from = 0; to = 0; strict = false }); link = None }) (IsAt fixed None i) mid new (λ o. (λ e. (c.loop-atom-test.true, e), λ h. h.1)) c.in_ok-push_order.ensures)

pub returns : goal.returns
returns c =
    let fixed = c.args.fixed.now in
    let end : c.loop-atom.atom-index ≡ length fixed = omega arith in
    let so_far = subst (λ (n : ℕ). AddsOrders (OfFirst (IsAt fixed None) n) c.args.orders.now.items c.loop-atom.orders.items) end c.loop-atom.invariant in
    adds_same (OfFirst (IsAt fixed None) (length fixed)) (IsFixedOrder fixed) c.args.orders.now.items c.loop-atom.orders.items (all_at fixed None) so_far
