use Rattle.std.proofs.Common.{◌≡◌, ◌↔◌, ℕ, ◌+◌, ◌<◌, false, List, Some, get_or, length, sym, subst, ◌∙◌, arith}
use Rattle.std.specs.List.{Contains}
use Rattle.std.proofs.lemmas.Option.{get_or_from_slice_get}
use Rattle.net_core.specs.Atoms.{atoms_in}
use Rattle.net_core.specs.declared.atom.Atom.{Atom}
use Rattle.tml_score.specs.Graph.{AddsOrders, IsOrderOfLink}
use Rattle.tml_score.proofs.GraphLaws.{IsAt, OfFirst, adds_none, adds_same, adds_then, all_at, of_first_more}
use Rattle.tml_score.proofs.graph.push_link.Goals as goal

pub loop-number-init : goal.loop-number-init
loop-number-init c = record {
  end = c.count-number-end.ensures.count;
  so_far = adds_none (OfFirst (IsAt (atoms_in c.atoms_of_link-atoms.result) (Some c.args.link)) 0) c.args.orders.now.items (λ o h. let lt = h.1 in omega arith);
}

pub loop-number-preserved : goal.loop-number-preserved
loop-number-preserved c =
    let atoms = atoms_in c.atoms_of_link-atoms.result in
    let link = c.args.link in
    let i = c.loop-number.number in
    let mid = c.loop-number.orders.items in
    let new = c.push_order.new.orders.items in
    let lt : i < length atoms = omega (arith, c.loop-number-test.true, c.loop-number.invariant.end) in
    let none : Atom = record { from = 0; to = 0; strict = false } in
    let taken : get_or atoms i none ≡ c.nth_order.result = get_or_from_slice_get atoms i c.nth_order.result none c.nth_order.ensures in
    record {
      end = c.loop-number.invariant.end;
      so_far = adds_then (OfFirst (IsAt atoms (Some link)) i) (IsAt atoms (Some link) i) (OfFirst (IsAt atoms (Some link)) (i + 1)) c.args.orders.now.items mid new (of_first_more (IsAt atoms (Some link)) i) c.loop-number.invariant.so_far
          (adds_same (λ o. o ≡ record { atom = c.nth_order.result; link = Some link }) (IsAt atoms (Some link) i) mid new
          (λ o. (λ e. (lt, e ∙ (λ k. record { atom = sym taken k; link = Some link })), λ h. h.1 ∙ (λ k. record { atom = taken k; link = Some link }))) c.in_ok-push_order.ensures);
    }

pub returns : goal.returns
returns c =
    let net = c.args.net.now in
    let link = c.args.link in
    let atoms = atoms_in c.atoms_of_link-atoms.result in
    let end : c.loop-number.number ≡ length atoms = omega arith in
    let so_far = subst (λ (n : ℕ). AddsOrders (OfFirst (IsAt atoms (Some link)) n) c.args.orders.now.items c.loop-number.orders.items) end c.loop-number.invariant.so_far in
    adds_same (OfFirst (IsAt atoms (Some link)) (length atoms)) (IsOrderOfLink net link) c.args.orders.now.items c.loop-number.orders.items (λ o.
    subst (λ (xs : List Atom). OfFirst (IsAt atoms (Some link)) (length atoms) o ↔ ((o.link ≡ Some link) × Contains xs o.atom)) c.atoms_of_link-atoms.ensures.atoms (all_at atoms (Some link) o)) so_far
