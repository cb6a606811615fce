use Rattle.std.proofs.Common.{◌≡◌, ◌<◌, ◌++◌, ◌∷◌, [], List, length, get_or, take, sym, ap, ◌∙◌, ◌+◌, arith, rules, append_assoc}
use Rattle.std.proofs.lemmas.List.{take_all, take_more}
use Rattle.std.proofs.lemmas.Option.{get_or_from_slice_get}
use Rattle.net_core.specs.Atoms.{atoms_in}
use Rattle.net_core.specs.declared.atom.Atom.{Atom}
use Rattle.net_orders.proofs.LinkAtoms.{no_atom}
use Rattle.net_orders.proofs.orders.push_atoms.Goals as goal

pub loop-number-preserved : goal.loop-number-preserved
loop-number-preserved c =
    let atoms = atoms_in c.args.atoms in
    let k = c.loop-number.number in
    let old = c.args.orders.now.items in
    let lt : k < length atoms = omega (arith, c.loop-number-test.true, c.loop-number.invariant.end) in
    let taken : get_or atoms k no_atom ≡ c.nth_order.result = get_or_from_slice_get atoms k c.nth_order.result no_atom c.nth_order.ensures in
    let pushed : c.push.new.self.items ≡ c.loop-number.orders.items ++ c.nth_order.result ∷ [] = search rules in
    let last : c.push.new.self.items ≡ (old ++ take k atoms) ++ get_or atoms k no_atom ∷ [] = pushed ∙ (λ i. c.loop-number.invariant.so_far i ++ sym taken i ∷ []) in
    let more : take (k + 1) atoms ≡ take k atoms ++ get_or atoms k no_atom ∷ [] = take_more atoms k no_atom lt in
    record {
      end = c.loop-number.invariant.end;
      so_far = last ∙ (append_assoc old (take k atoms) (get_or atoms k no_atom ∷ []) ∙ ap (λ (xs : List Atom). old ++ xs) (sym more));
    }

pub returns : goal.returns
returns c =
    let atoms = atoms_in c.args.atoms in
    let past = take_all c.loop-number.number atoms (omega (arith, c.loop-number-test.false, c.loop-number.invariant.end)) in
    c.loop-number.invariant.so_far ∙ ap (λ (xs : List Atom). c.args.orders.now.items ++ xs) past
