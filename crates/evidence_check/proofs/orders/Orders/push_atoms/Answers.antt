use Rattle.std.proofs.Common.{◌↔◌, false, List, ◌<◌, ◌+◌, ◌-◌, length, subst, sym, arith}
use Rattle.std.specs.List.{All}
use Rattle.std.proofs.lemmas.List.{take_all}
use Rattle.net_core.specs.Atoms.{IsInRange, Satisfies, atoms_in}
use Rattle.net_core.specs.Limits.{max_points}
use Rattle.net_core.specs.declared.atom.Atom.{Atom}
use Rattle.evidence_check.specs.Orders.{KeepsOrders}
use Rattle.evidence_check.specs.declared.pairs.TheConstants.{MAX_PAIRS as most_pairs}
use Rattle.evidence_check.proofs.OrderSets.{few_up, in_steps}
use Rattle.evidence_check.proofs.PairSets.{all_further}
use Rattle.evidence_check.proofs.Proving.{atom_is}
use Rattle.evidence_check.proofs.orders.Orders.push_atoms.Goals as goal

pub push_atom-requires-clause-points : goal.push_atom-requires-clause-points
push_atom-requires-clause-points c =
    let atoms = atoms_in c.args.atoms in
    let k = c.loop-k.k in
    subst (IsInRange max_points) (sym (atom_is atoms k c.in-Some.atom c.in-Some.ensures))
    (c.requires.points k (record { from = 0; to = 0; strict = false }) (omega (arith, c.loop-k-test.true, c.loop-k.invariant.end)))

pub push_atom-requires-clause-few : goal.push_atom-requires-clause-few
push_atom-requires-clause-few c =
    few_up (most_pairs - 4 + c.loop-k.k) (most_pairs - 1) c.loop-k.self (omega (arith, c.loop-k-test.true, c.count-k-end.ensures.few)) (c.loop-k.invariant.few (most_pairs - 4) c.requires.few)

pub loop-k-preserved : goal.loop-k-preserved
loop-k-preserved c =
    let atoms = atoms_in c.args.atoms in
    let k = c.loop-k.k in
    let below : k < length atoms = omega (arith, c.loop-k-test.true, c.loop-k.invariant.end) in
    let is = atom_is atoms k c.in-Some.atom c.in-Some.ensures in
    record {
      end = c.loop-k.invariant.end;
      keeps = λ t. in_steps _ _ _ _ _ _ (subst (λ (a : Atom). KeepsOrders t c.push_atom.new.self ↔ (KeepsOrders t c.loop-k.self × Satisfies t a)) is (c.push_atom.ensures.keeps t)) (c.loop-k.invariant.keeps t)
          (all_further (Satisfies t) atoms k (record { from = 0; to = 0; strict = false }) below);
      within = λ n old all. c.push_atom.ensures.within n (c.loop-k.invariant.within n old all) (subst (IsInRange n) (sym is) (all k (record { from = 0; to = 0; strict = false }) below));
      few = λ n few. few_up (n + k + 1) (n + (k + 1)) c.push_atom.new.self (omega arith) (c.push_atom.ensures.few (n + k) (c.loop-k.invariant.few n few));
    }

pub returns-clause-keeps : goal.returns-clause-keeps
returns-clause-keeps c t =
    subst (λ (l : List Atom). KeepsOrders t c.loop-k.self ↔ (KeepsOrders t c.args.self.now × All (Satisfies t) l)) (take_all c.loop-k.k (atoms_in c.args.atoms) (omega (arith, c.loop-k-test.false, c.loop-k.invariant.end))) (c.loop-k.invariant.keeps t)

pub returns-clause-few : goal.returns-clause-few
returns-clause-few c n few = few_up (n + c.loop-k.k) (n + 4) c.loop-k.self (omega (arith, c.count-k-end.ensures.few, c.loop-k.auto.k-end)) (c.loop-k.invariant.few n few)
