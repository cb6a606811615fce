-- Walks prove the orders that hold in every timeline that fits.
use Rattle.std.proofs.Common.{◌≡◌, ℕ, ◌+◌, ◌*◌, ◌<◌, ◌≤◌, Bool, true, false, List, [], ◌∷◌, ◌++◌, length, get_or, replicate, below_more, sym, ap, subst, ◌∙◌, arith}
use Rattle.std.proofs.lemmas.List.{get_or-replicate, get_or_append_left, get_or_push}
use Rattle.std.proofs.lemmas.List.Elements.{All-from_get_or, All-get_or}
use Rattle.named.proofs.Pairs.{zip_from}
use Rattle.net_core.specs.Atoms.{IsInRange, atoms_of, points_of}
use Rattle.net_core.specs.Fits.{EveryLink, Fits, FitsWith}
use Rattle.net_core.specs.Nets.{IsNet, PlainNet, points}
use Rattle.net_core.specs.Relations.{Timeline}
use Rattle.net_core.specs.Walks.{HasWalk, IsWalk, Kept}
use Rattle.net_core.specs.declared.atom.Atom.{Atom}
use Rattle.net_core.specs.declared.rels.Rel.{Rel}
use Rattle.net_core.specs.declared.step.Step.{Step}
use Rattle.net_core.proofs.AtomLaws.{atoms_counted}
use Rattle.net_core.proofs.StepLaws.{fits_fewer}
use Rattle.net_core.proofs.WalkLaws.{joined_more}
use Rattle.clash.proofs.Complete.{walks_say_all}
use Rattle.net_core.specs.Entailment.{AlwaysHolds, AreIntervals, HasTimeline}
use Rattle.evidence_check.specs.Refusals.{Proves, atom_at, walk_at}
use Rattle.evidence_check.specs.Supported.{IsProof, IsSupported}
use Rattle.evidence_check.proofs.Soundness.{supported_is_true}
use Rattle.evidence_format.specs.Bundles.{IsClaimText}
use Rattle.evidence_format.specs.Evidence.{AreSteps, IsWellFormed, entails}
use Rattle.order_answers.specs.Ask.{AreWalks, ShowsProof}
use Rattle.net_answers.proofs.StepNumbers.{walk_numbers}
use Rattle.net_answers.proofs.Sizes.{entails_size}

-- ---- with all links kept

module _ (net : PlainNet) (keep : List Bool) (all : keep ≡ replicate (length net.links) true) where
  kept : (k : ℕ) → k < length net.links → Kept keep k
  kept k lt = ap (λ (bs : List Bool). get_or bs k false) all ∙ get_or-replicate (length net.links) k true false lt

  -- what fits with the links that are kept fits
  fits_all : (t : Timeline) → FitsWith net (Kept keep) t → Fits net t
  fits_all t fits = fits_fewer net (Kept keep) EveryLink t (λ k lt any. kept k lt) fits

  fits_kept : (t : Timeline) → Fits net t → FitsWith net (Kept keep) t
  fits_kept t fits = fits_fewer net EveryLink (Kept keep) t (λ k lt any. tt) fits

  -- if some timeline fits, an order that always holds has a walk
  pub walk_exists : (atom : Atom) → IsNet net → IsInRange (points net) atom → HasTimeline net → AlwaysHolds net atom → HasWalk net (Kept keep) atom.from atom.to atom.strict
  walk_exists atom is range fits always =
      (walks_say_all net keep fits.0 atom.strict atom.from atom.to is (fits_kept fits.0 fits.1) range.0 range.1).0 (λ t other. always t (fits_all t other))

-- a walk over links that are kept is one over all
pub walk_proves : (net : PlainNet) (keep : List Bool) (atom : Atom) (steps : List Step) → IsWalk net (Kept keep) atom.from atom.to atom.strict steps → IsProof net atom steps
walk_proves net keep atom steps walk = (joined_more net (Kept keep) EveryLink steps atom.from atom.to (λ k any. tt) walk.0, walk.1)

-- one walk more
pub proofs_push : (net : PlainNet) (atoms : List Atom) (walks : List (List Step)) (k : ℕ) (steps : List Step) → length walks ≡ k
    → ((j : ℕ) → j < k → Proves net atoms walks j) → IsProof net (atom_at atoms k) steps → (j : ℕ) → j < k + 1 → Proves net atoms (walks ++ steps ∷ []) j
proofs_push net atoms walks k steps size so_far proof =
    let last : walk_at (walks ++ steps ∷ []) k ≡ steps = get_or_push walks steps [] k size in
    below_more (Proves net atoms (walks ++ steps ∷ [])) k
    (λ j lt. subst (IsProof net (atom_at atoms j)) (sym (get_or_append_left walks (steps ∷ []) [] j (omega (arith, lt, size)))) (so_far j lt))
    (subst (IsProof net (atom_at atoms k)) (sym last) proof)

-- ---- a proof, and its text

module _ (net : PlainNet) (a : ℕ) (r : Rel) (b : ℕ) (is : IsNet net) (both : AreIntervals net a b) (walks : List (List Step)) (are : AreWalks net (atoms_of a r b) walks) where
  -- walks for all orders are well-formed evidence
  pub proof_well_formed : IsWellFormed (entails a r b walks)
  proof_well_formed =
      let few = is.few_intervals in (
        omega (arith, both.0, few),
        omega (arith, both.1, few),
        All-from_get_or AreSteps walks [] (λ k lt.
            let proof = are.proofs k (omega (arith, lt, are.one_each)) in
            let short = All-get_or (λ (steps : List Step). length steps ≤ 2 * points net) walks k [] lt are.short in
            (walk_numbers net (walk_at walks k) (atom_at (atoms_of a r b) k).from (atom_at (atoms_of a r b) k).to is proof.0, omega (arith, short, few))),
        are.one_each ∙ atoms_counted r (points_of a) (points_of b),
      )

  -- their text tells a proof
  pub shows_proof : (text : List ℕ) → IsClaimText (entails a r b walks) text → ShowsProof net a r b text
  shows_proof text is_text =
      let supported : IsSupported net (entails a r b walks) = (both, zip_from (IsProof net) (record { from = 0; to = 0; strict = false }) [] (atoms_of a r b) walks are.one_each are.proofs) in (
        walks,
        are.short,
        (is_text, supported, supported_is_true net (entails a r b walks) supported, entails_size net a b r walks text is both are.one_each are.proofs are.short is_text),
      )
