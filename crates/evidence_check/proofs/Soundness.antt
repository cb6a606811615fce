-- What supported evidence shows is true.
use Rattle.std.proofs.Common.{◌≡◌, ℕ, List, [], ◌∷◌, Result, Ok, Err, OnOk, IfOk, subst}
use Rattle.std.specs.List.{AllByRecursion, Contains}
use Rattle.std.proofs.lemmas.List.Elements.{All-from_get_or}
use Rattle.net_core.proofs.Lent.{zip_at}
use Rattle.net_core.specs.Atoms.{Satisfies, atoms_of}
use Rattle.net_core.specs.Relations.{Timeline}
use Rattle.net_core.specs.declared.atom.Atom.{Atom}
use Rattle.net_core.specs.Clashes.{IsMinimalClash, Others}
use Rattle.net_core.specs.Fits.{EveryLink, Fits, FitsWith}
use Rattle.net_core.specs.Nets.{PlainNet}
use Rattle.net_core.specs.Ranks.{ranks_of, timeline_of}
use Rattle.net_core.specs.declared.rels.Rel.{Rel}
use Rattle.net_core.specs.declared.step.Step.{Step as StepOf}
use Rattle.net_core.proofs.AtomLaws.{atoms_say_the_relation}
use Rattle.net_core.proofs.WalkLaws.{over_links, closed_walk_clashes, closed_walk_over, walk_kept}
use Rattle.net_core.specs.Entailment.{CanFail, Follows}
use Rattle.evidence_format.specs.Evidence.{PlainEvidence, timeline, entails, counter, clash}
use Rattle.evidence_check.specs.Claims.{ShowsTruth}
use Rattle.evidence_check.specs.Refusals.{spare_ranks_at}
use Rattle.evidence_check.specs.Supported.{FitsOthers, IsSupported, ProveAll}

-- a timeline that fits is in the order of each atom that is proved
all_kept : (net : PlainNet) (t : Timeline) (atoms : List Atom) (walks : List (List StepOf)) → Fits net t → ProveAll net atoms walks → AllByRecursion (Satisfies t) atoms
all_kept net t [] walks fits proofs = tt
all_kept net t (atom ∷ atoms) [] fits proofs = absurd proofs
all_kept net t (atom ∷ atoms) (walk ∷ walks) fits proofs = (walk_kept net EveryLink t walk atom.from atom.to atom.strict fits proofs.0, all_kept net t atoms walks fits proofs.1)

pub supported_is_true : (net : PlainNet) (e : PlainEvidence) → IsSupported net e → ShowsTruth net e
supported_is_true net (timeline ranks) fit = (timeline_of (ranks_of ranks), fit.1)
supported_is_true net (entails a r b walks) proofs = λ t fits. let atoms = atoms_of a r b in (atoms_say_the_relation t r a b).1 (all_kept net t atoms walks fits proofs.1)
supported_is_true net (counter a r b ranks) fails = (timeline_of (ranks_of ranks), fails.1.1, fails.2)
supported_is_true net (clash cites walk spares) shown =
    let closed = shown.1.0 in
    record {
      links = shown.0;
      clashes = closed_walk_clashes net (Contains cites) walk
          (closed_walk_over net EveryLink (Contains cites) walk (λ k over. (shown.1.1 k (over_links net EveryLink walk closed.0 closed.0 k closed.1.0 over)).0 over) closed);
      needed = All-from_get_or (λ (k : ℕ). (t : Timeline) × FitsWith net (Others (Contains cites) k) t) cites 0
          (λ i lt. (timeline_of (ranks_of (spare_ranks_at spares i)), (zip_at (FitsOthers net cites) 0 [] cites spares shown.2 i lt).1));
    }

-- the same, of what a function answers
pub true_where_ok : {C E : Type 0} (result : Result C E) (net : PlainNet) (e : PlainEvidence) → OnOk result (IsSupported net e) → IfOk result (λ claim. ShowsTruth net e)
true_where_ok (Ok claim) net e supported = supported_is_true net e supported
true_where_ok (Err refused) net e supported = tt

-- of evidence that is told twice
pub follows_where_ok : {C E : Type 0} (result : Result C E) (net : PlainNet) (e : PlainEvidence) → IfOk result (λ claim. ShowsTruth net e)
    → (a b : ℕ) (r : Rel) (walks : List (List StepOf)) → e ≡ entails a r b walks → IfOk result (λ claim. Follows net a r b)
follows_where_ok (Ok claim) net e holds a b r walks same = subst (ShowsTruth net) same holds
follows_where_ok (Err refused) net e holds a b r walks same = tt

pub can_fail_where_ok : {C E : Type 0} (result : Result C E) (net : PlainNet) (e : PlainEvidence) → IfOk result (λ claim. ShowsTruth net e)
    → (a b : ℕ) (r : Rel) (ranks : List (ℕ × ℕ)) → e ≡ counter a r b ranks → IfOk result (λ claim. CanFail net a r b)
can_fail_where_ok (Ok claim) net e holds a b r ranks same = subst (ShowsTruth net) same holds
can_fail_where_ok (Err refused) net e holds a b r ranks same = tt

pub clashes_where_ok : {C E : Type 0} (result : Result C E) (net : PlainNet) (e : PlainEvidence) → IfOk result (λ claim. ShowsTruth net e)
    → (cites : List ℕ) (walk : List StepOf) (spares : List (List (ℕ × ℕ))) → e ≡ clash cites walk spares → IfOk result (λ claim. IsMinimalClash net cites)
clashes_where_ok (Ok claim) net e holds cites walk spares same = subst (ShowsTruth net) same holds
clashes_where_ok (Err refused) net e holds cites walk spares same = tt
