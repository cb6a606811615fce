use Rattle.std.proofs.Common.{◌≡◌, ◌≢◌, ◌<◌, ◌++◌, ◌∷◌, [], ℕ, length, get_or, Some, sym, subst, ◌∙◌, arith}
use Rattle.std.proofs.lemmas.List.Elements.{All-get_or}
use Rattle.std.proofs.lemmas.Option.{get_or_from_slice_get}
use Rattle.net_core.specs.Atoms.{IsInRange, atoms_in}
use Rattle.net_core.specs.Fits.{KeepsLink}
use Rattle.net_core.specs.Nets.{points}
use Rattle.net_orders.specs.Orders.{IsTrueBut, AppendsOrders}
use Rattle.net_orders.proofs.LinkAtoms.{link_said, no_atom}
use Rattle.net_orders.proofs.Ordered.{link_orders, order_at, appends_more, appends_none, appends_one, appends_same}
use Rattle.net_orders.proofs.Steps.{Below}
use Rattle.net_orders.proofs.orders.push_link.Goals as goal

pub loop-number-init : goal.loop-number-init
loop-number-init c = record { end = c.count-number-end.ensures.count; so_far = appends_none (points c.args.net.now) (λ k omitted u. IsTrueBut omitted (order_at (atoms_in c.atoms_of_link-atoms.result) c.args.link k) u) c.args.orders.now }

pub loop-number-preserved : goal.loop-number-preserved
loop-number-preserved c =
    let atoms = atoms_in c.atoms_of_link-atoms.result in
    let n = points c.args.net.now in
    let k = c.loop-number.number in
    let lt : k < length atoms = omega (arith, c.loop-number-test.true, c.loop-number.invariant.end) in
    let taken : get_or atoms k no_atom ≡ c.nth_order-atom.result = get_or_from_slice_get atoms k c.nth_order-atom.result no_atom c.nth_order-atom.ensures in
    let order = order_at atoms c.args.link k in
    let pushed : c.push.new.self ≡ c.loop-number.orders ++ order ∷ [] = c.in_ok-push.ensures.ok ∙ (λ i. c.loop-number.orders ++ record { atom = sym taken i; link = Some c.args.link } ∷ []) in
    record {
      end = c.loop-number.invariant.end;
      so_far = appends_more n (λ j omitted u. IsTrueBut omitted (order_at atoms c.args.link j) u) k c.args.orders.now c.loop-number.orders c.push.new.self c.loop-number.invariant.so_far
          (appends_one n order c.loop-number.orders c.push.new.self (All-get_or (IsInRange n) atoms k no_atom lt c.atoms_of_link-atoms.ensures.in_range) pushed);
    }

pub returns : goal.returns
returns c =
    let atoms = atoms_in c.atoms_of_link-atoms.result in
    let n = points c.args.net.now in
    let end : c.loop-number.number ≡ length atoms = omega arith in
    appends_same n (λ omitted t. Below (λ k u. IsTrueBut omitted (order_at atoms c.args.link k) u) (length atoms) t) (λ omitted t. c.args.link ≢ omitted → KeepsLink c.args.net.now t c.args.link)
    c.args.orders.now c.loop-number.orders (λ omitted t.
    let each = link_orders atoms c.args.link omitted t in
    let said = link_said c.args.net.now c.args.link atoms c.atoms_of_link-atoms.ensures.atoms t in
    (λ below other. said.0 (each.0 below other), λ holds. each.1 (λ other. said.1 (holds other))))
    (subst (λ (k : ℕ). AppendsOrders n (λ omitted t. Below (λ j u. IsTrueBut omitted (order_at atoms c.args.link j) u) k t) c.args.orders.now c.loop-number.orders) end c.loop-number.invariant.so_far)
