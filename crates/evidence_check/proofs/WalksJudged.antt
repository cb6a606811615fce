-- Steps prove an order and are a closed walk over the cited links, or they do not for a reason.
use Rattle.std.proofs.Common.{◌≡◌, ◌↔◌, ◌⊎◌, inl, inr, ℕ, zero, suc, ◌+◌, ◌<◌, Bool, true, false, List, [], ◌∷◌, length, take, Option, Some, None, refl, sym, subst, ◌∙◌, add-one, arith}
use Rattle.std.proofs.Math.Seq.{take-length}
use Rattle.std.proofs.lemmas.Option.{same_Some}
use mathlib.Core.Logic.Dec
use native.Mathlib.Decide.{ℕ_discrete}
use Rattle.net_core.specs.Clashes.{Agrees, IsClosedOver}
use Rattle.net_core.specs.Fits.{EveryLink}
use Rattle.net_core.specs.Nets.{PlainNet}
use Rattle.net_core.specs.Steps.{atom_of, has_strict}
use Rattle.net_core.specs.Walks.{IsJoined}
use Rattle.net_core.specs.declared.atom.Atom.{Atom}
use Rattle.net_core.specs.declared.step.Step.{Step as StepOf}
use Rattle.net_core.proofs.FirstLaws.{first_or_none}
use Rattle.net_core.proofs.WalkLaws.{uses_own}
use Rattle.evidence_check.specs.declared.refusal.Reason.TheVariants.{Step, End, Weak, Cited}
use Rattle.evidence_check.specs.Refusals.{StepsGoFrom, StepsGoOn, IsNoProof, IsNoClosedWalk}
use Rattle.evidence_check.specs.Supported.{IsProof}
use Rattle.evidence_check.proofs.Deciding.{agrees}
use Rattle.evidence_check.proofs.ClosedWalks.{start_is}
use Rattle.evidence_check.proofs.Reasons.{OrReason}

-- ---- the first step with which something no longer holds

module _ (Holds : List StepOf → Type 0) where
  -- it holds of the steps before this one, and with it no longer
  abbrev StopsWith : List StepOf → ℕ → Type 0
  StopsWith all k = (k < length all) × Holds (take k all) × (Holds (take (k + 1) all) → ⊥)

  -- what holds of no steps holds of all, or stops with one
  all_or_stop : ((some : List StepOf) → Dec (Holds some)) → Holds [] → (all : List StepOf) → Holds all ⊎ ((k : ℕ) × StopsWith all k)
  all_or_stop decided none all = elim (first_or_none (suc (length all)) (λ k. Holds (take k all)) (λ k. decided (take k all))) [
    | inl each ↦ inl (subst Holds (take-length all) (each (length all) (omega arith)))
    | inr first ↦ inr (stop first.0 first.1.0 first.1.1 first.1.2)
  ]
    where
      stop : (k : ℕ) → k < suc (length all) → (Holds (take k all) → ⊥) → ((j : ℕ) → j < k → Holds (take j all)) → (k : ℕ) × StopsWith all k
      stop zero less never before = absurd (never none)
      stop (suc k) less never before = (k, (omega arith, before k (omega arith), λ holds. never (subst (λ (n : ℕ). Holds (take n all)) (add-one k) holds)))

module _ (net : PlainNet) where
  -- ---- steps that go on

  -- steps go on from a point where the first one begins there, and the others go on from where it leads
  by_first : (step : StepOf) (rest : List StepOf) (a : Atom) (x : ℕ) → atom_of net step ≡ Some a → ((a.from ≡ x) × StepsGoFrom net a.to rest) ↔ StepsGoFrom net x (step ∷ rest)
  by_first step rest a x e = (there, back)
    where
      there : (a.from ≡ x) × StepsGoFrom net a.to rest → StepsGoFrom net x (step ∷ rest)
      there both = (both.1.0, (a, (e, uses_own EveryLink step (λ k own. tt)), both.0, both.1.1))

      back : StepsGoFrom net x (step ∷ rest) → (a.from ≡ x) × StepsGoFrom net a.to rest
      back goes =
          let same : goes.1.0 ≡ a = same_Some _ _ (sym goes.1.1.0 ∙ e) in
          (start_is net step rest x goes.0 a goes.1 e, (goes.0, subst (λ (b : Atom). IsJoined net EveryLink rest b.to goes.0) same goes.1.3))

  -- whether steps go on from a point
  go_from : (x : ℕ) (steps : List StepOf) → Dec (StepsGoFrom net x steps)
  go_from x [] = yes (x, refl)
  go_from x (step ∷ rest) = by_order (atom_of net step) refl (λ a. go_from a.to rest)
    where
      by_order : (o : Option Atom) → atom_of net step ≡ o → ((a : Atom) → Dec (StepsGoFrom net a.to rest)) → Dec (StepsGoFrom net x (step ∷ rest))
      by_order (Some a) e more = Dec.of_iff (by_first step rest a x e) (Dec.and (ℕ_discrete a.from x) (more a))
      by_order None e more = no (λ goes. let is = goes.1.1.0 in cc)

  -- steps that go on from any point do so from where the first one begins
  go_on : (steps : List StepOf) → Dec (StepsGoOn net steps)
  go_on [] = yes (0, (0, refl))
  go_on (step ∷ rest) = by_order (atom_of net step) refl
    where
      by_order : (o : Option Atom) → atom_of net step ≡ o → Dec (StepsGoOn net (step ∷ rest))
      by_order (Some a) e = Dec.of_iff (λ goes. (a.from, goes), λ on. subst (λ (x : ℕ). StepsGoFrom net x (step ∷ rest)) (sym (start_is net step rest on.0 on.1.0 a on.1.1 e)) on.1) (go_from a.from (step ∷ rest))
      by_order None e = no (λ on. let is = on.1.1.1.0 in cc)

  -- ---- walks

  pub proof_or_none : (atom : Atom) (all : List StepOf) → OrReason (IsProof net atom all) (IsNoProof net atom all)
  proof_or_none atom all = elim (all_or_stop (StepsGoFrom net atom.from) (go_from atom.from) (atom.from, refl) all) [
    | inr stop ↦ inr (Step stop.0, stop.1)
    | inl goes ↦ elim (ℕ_discrete goes.0 atom.to) [
      | no other ↦ inr (End, (goes.0, goes.1, other))
      | yes same ↦ by_strict (subst (λ (y : ℕ). IsJoined net EveryLink all atom.from y) same goes.1) atom.strict (has_strict net all) refl refl
    ]
  ]
    where
      by_strict : IsJoined net EveryLink all atom.from atom.to → (asked some : Bool) → atom.strict ≡ asked → has_strict net all ≡ some
          → OrReason (IsProof net atom all) (IsNoProof net atom all)
      by_strict joined true false e f = inr (Weak, (joined, e, f))
      by_strict joined asked true e f = inl (joined, λ strict. f)
      by_strict joined false some e f = inl (joined, λ strict. absurd cc)

  pub closed_or_none : (cites : List ℕ) (all : List StepOf) → OrReason (IsClosedOver net cites all) (IsNoClosedWalk net cites all)
  closed_or_none cites all = elim (all_or_stop (StepsGoOn net) go_on (0, (0, refl)) all) [
    | inr stop ↦ inr (Step stop.0, stop.1)
    | inl on ↦ elim (ℕ_discrete on.0 on.1.0) [
      | no other ↦ inr (End, (on.0, on.1.0, on.1.1, other))
      | yes same ↦ by_strict on.0 (subst (λ (y : ℕ). IsJoined net EveryLink all on.0 y) (sym same) on.1.1) (has_strict net all) refl
    ]
  ]
    where
      by_strict : (x : ℕ) → IsJoined net EveryLink all x x → (some : Bool) → has_strict net all ≡ some → OrReason (IsClosedOver net cites all) (IsNoClosedWalk net cites all)
      by_strict x joined false e = inr (Weak, (x, joined, e))
      by_strict x joined true e = elim (first_or_none (length net.links) (Agrees cites all) (agrees cites all)) [
        | inr first ↦ inr (Cited first.0, ((x, (joined, λ asked. e)), first.1))
        | inl agree ↦ inl ((x, (joined, λ asked. e)), agree)
      ]
