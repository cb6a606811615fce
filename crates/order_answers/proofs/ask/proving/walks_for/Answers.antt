use Rattle.std.proofs.Common.{◌≡◌, ◌*◌, ◌≤◌, ◌+◌, ◌<◌, ℕ, All, List, [], ◌∷◌, ◌++◌, length, length-append, ap, sym, subst, arith, rules}
use Rattle.std.proofs.lemmas.List.Elements.{All-push}
use Rattle.evidence_check.specs.Refusals.{Proves}
use Rattle.evidence_check.specs.Supported.{IsProof}
use Rattle.evidence_check.proofs.Proving.{atom_is}
use Rattle.net_core.specs.Atoms.{IsInRange, atoms_in}
use Rattle.net_core.specs.Nets.{points}
use Rattle.net_core.specs.declared.atom.Atom.{Atom}
use Rattle.net_core.specs.declared.step.Step.{Step}
use Rattle.net_core.specs.Entailment.{AlwaysHolds}
use Rattle.net_core.proofs.StepLaws.{one_of_all}
use Rattle.order_answers.proofs.WalkProofs.{proofs_push}
use Rattle.order_answers.proofs.ask.proving.walks_for.Goals as goal

pub walk_for-requires-clause-range : goal.walk_for-requires-clause-range
walk_for-requires-clause-range c = one_of_all (IsInRange (points c.args.net.now)) (atoms_in c.args.atoms) c.loop-k.k c.in-Some.atom c.requires.range (sym c.in-Some.ensures)

pub walk_for-requires-clause-always : goal.walk_for-requires-clause-always
walk_for-requires-clause-always c =
    let k = c.loop-k.k in
    let below : k < length (atoms_in c.args.atoms) = omega (arith, c.loop-k-test.true, c.loop-k.invariant.end) in
    subst (AlwaysHolds c.args.net.now) (sym (atom_is (atoms_in c.args.atoms) k c.in-Some.atom c.in-Some.ensures)) (c.requires.always k below)

pub loop-k-preserved : goal.loop-k-preserved
loop-k-preserved c =
    let net = c.args.net.now in
    let atoms = atoms_in c.args.atoms in
    let k = c.loop-k.k in
    let walks = c.loop-k.walks in
    let steps = c.in_ok-steps.steps in
    let items : c.push.new.self ≡ walks ++ steps ∷ [] = search rules in
    let proof = subst (λ (a : Atom). IsProof net a steps) (atom_is atoms k c.in-Some.atom c.in-Some.ensures) c.in_ok-steps.ensures.proof in
    record {
      end = c.loop-k.invariant.end;
      so_far = omega (arith, ap length items, length-append walks (steps ∷ []), c.loop-k.invariant.so_far);
      proofs = subst (λ (all : List (List Step)). (j : ℕ) → j < k + 1 → Proves net atoms all j) (sym items)
          (proofs_push net atoms walks k steps c.loop-k.invariant.so_far c.loop-k.invariant.proofs proof);
      short = subst (All (λ (some : List Step). length some ≤ 2 * points net)) (sym items)
          (All-push (λ (some : List Step). length some ≤ 2 * points net) walks steps c.loop-k.invariant.short c.in_ok-steps.ensures.short);
    }
