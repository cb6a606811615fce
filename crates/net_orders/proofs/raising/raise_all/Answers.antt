use Rattle.std.proofs.Common.{ℕ, ◌-◌, ◌<◌, length, take, get_or, subst, sym, arith}
use Rattle.std.proofs.lemmas.List.{length-take-le}
use Rattle.std.proofs.lemmas.List.Elements.{All-get_or}
use Rattle.net_core.specs.Atoms.{IsInRange, Satisfies}
use Rattle.net_core.specs.Relations.{Timeline}
use Rattle.net_core.specs.declared.atom.Atom.{Atom}
use Rattle.order_closure.specs.Tables.{SatisfiesAll}
use Rattle.net_orders.specs.Raising.{RisesUntil}
use Rattle.net_orders.proofs.LinkAtoms.{no_atom}
use Rattle.net_orders.proofs.Rising.{left_less, rises_all_back, rises_more_back}
use Rattle.net_orders.proofs.Steps.{all_below}
use Rattle.net_orders.proofs.raising.raise_all.Goals as goal

pub raise-requires : goal.raise-requires
raise-requires c =
    let atoms = c.args.atoms.now in
    let size = length c.loop-rest.rest.now in
    let some = c.in-len1-up.len_at_least in
    let lt : size - 1 < length atoms = omega (arith, c.loop-rest.invariant.within) in
    record {
      in_range = subst (λ (n : ℕ). IsInRange n (get_or c.loop-rest.rest.now (size - 1) no_atom)) (sym c.loop-rest.invariant.so_far.rises.size)
          (subst (IsInRange (length c.args.ranks.now)) (sym (c.loop-rest.invariant.left (size - 1) (omega arith)))
          (All-get_or (IsInRange (length c.args.ranks.now)) atoms (size - 1) no_atom lt c.requires.in_range));
      within = c.loop-rest.invariant.so_far.rises.within c.requires.within;
    }

pub loop-rest-preserved : goal.loop-rest-preserved
loop-rest-preserved c =
    let atoms = c.args.atoms.now in
    let rest = c.loop-rest.rest.now in
    let size = length rest in
    let some = c.in-len1-up.len_at_least in
    let less = length-take-le (size - 1) rest (omega arith) in
    let Each = λ (k : ℕ) (t : Timeline). Satisfies t (get_or atoms k no_atom) in
    record {
      within = omega (arith, c.loop-rest.invariant.within);
      left = left_less rest atoms no_atom c.loop-rest.invariant.left;
      so_far = rises_more_back Each (length atoms) size (length (take (size - 1) rest)) c.args.ranks.now c.loop-rest.ranks c.raise.new.ranks
          (omega arith) c.loop-rest.invariant.within c.loop-rest.invariant.so_far
          (subst (λ (k : ℕ). RisesUntil (Each k) c.loop-rest.ranks c.raise.new.ranks) (sym less)
          (subst (λ (atom : Atom). RisesUntil (λ t. Satisfies t atom) c.loop-rest.ranks c.raise.new.ranks) (c.loop-rest.invariant.left (size - 1) (omega arith)) c.raise.ensures));
    }

pub returns : goal.returns
returns c =
    let atoms = c.args.atoms.now in
    rises_all_back (λ k t. Satisfies t (get_or atoms k no_atom)) (SatisfiesAll atoms) (length c.loop-rest.rest.now) (length atoms)
    c.args.ranks.now c.loop-rest.ranks (omega (arith, c.in_default.len_below)) (all_below (λ (a : Atom) t. Satisfies t a) atoms no_atom) c.loop-rest.invariant.so_far
