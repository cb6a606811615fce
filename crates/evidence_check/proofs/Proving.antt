-- Walks, and why steps are none.
use Rattle.std.proofs.Common.{◌≡◌, ℕ, zero, suc, ◌+◌, ◌<◌, ◌≤◌, Bool, false, ◌||◌, List, [], ◌∷◌, length, take, get_or, slice_get, Some, refl, sym, ap, subst, ◌∙◌, arith, inl, inr}
use Rattle.std.proofs.lemmas.Bool.{cases_lt}
use Rattle.std.proofs.lemmas.List.{get_or_default, take_more}
use Rattle.std.proofs.lemmas.Option.{get_or_from_slice_get}
use Rattle.std.proofs.lemmas.List.Folds.{list_any_more}
use Rattle.net_core.specs.Fits.{EveryLink}
use Rattle.net_core.specs.Nets.{PlainNet}
use Rattle.net_core.specs.Steps.{GoesBy, atom_of, has_strict, is_strict_order}
use Rattle.net_core.specs.Walks.{IsJoined}
use Rattle.net_core.specs.declared.atom.Atom.{Atom}
use Rattle.net_core.specs.declared.step.Step.{Step as StepOf}
use Rattle.net_core.specs.declared.step.Step.TheVariants as steps
use Rattle.net_core.proofs.WalkLaws.{joined_push, joined_split, joined_take, one_end}
use Rattle.evidence_check.specs.declared.refusal.Reason.{Reason}
use Rattle.evidence_check.specs.declared.refusal.Reason.TheVariants.{Number, Size, Order, Link, Calendar, Step, End, Weak, Cited, Holds}
use Rattle.evidence_check.specs.Refusals.{StepsGoFrom, IsNoProof, atom_at, walk_at}
use Rattle.evidence_check.specs.Supported.{IsProof}

-- what is read past the end of a list of steps
abbrev pub no_step : StepOf
no_step = steps.Link 0 0

-- an atom and a walk that were read are those of their number
pub atom_is : (atoms : List Atom) (k : ℕ) (atom : Atom) → Some atom ≡ slice_get atoms k → atom ≡ atom_at atoms k
atom_is atoms k atom e = sym (get_or_from_slice_get atoms k atom (record { from = 0; to = 0; strict = false }) (sym e))

pub walk_is : (walks : List (List StepOf)) (k : ℕ) (walk : List StepOf) → k < length walks → walk ≡ get_or walks k walk → walk ≡ walk_at walks k
walk_is walks k walk lt e = e ∙ get_or_default walks k walk [] lt

-- what is true of both is true of those of their number
pub at_number : (P : Atom → List StepOf → Type 0) (atoms : List Atom) (walks : List (List StepOf)) (k : ℕ) (atom : Atom) (walk : List StepOf)
    → atom ≡ atom_at atoms k → walk ≡ walk_at walks k → P atom walk → P (atom_at atoms k) (walk_at walks k)
at_number P atoms walks k atom walk e f p = subst (λ (a : Atom). P a (walk_at walks k)) e (subst (λ (w : List StepOf). P atom w) f p)

module _ (net : PlainNet) where
  -- steps that go on to their end do so to each place before it
  pub goes_less : (x i k : ℕ) (all : List StepOf) → i ≤ k → StepsGoFrom net x (take k all) → StepsGoFrom net x (take i all)
  goes_less x i k all le goes =
      let less = joined_take net EveryLink (take k all) x goes.0 i goes.1 in
      (less.0, subst (λ (some : List StepOf). IsJoined net EveryLink some x less.0) (take_take i k all le) less.1)
    where
      take_take : (i k : ℕ) (all : List StepOf) → i ≤ k → take i (take k all) ≡ take i all
      take_take zero k all le = refl
      take_take (suc i) zero all le = absurd (omega arith)
      take_take (suc i) (suc k) [] le = refl
      take_take (suc i) (suc k) (s ∷ all) le = ap (λ (some : List StepOf). s ∷ some) (take_take i k all (omega arith))

  pub goes_whole : (x y k : ℕ) (all : List StepOf) → IsJoined net EveryLink all x y → StepsGoFrom net x (take k all)
  goes_whole x y k all joined = joined_take net EveryLink all x y k joined

  -- a walk is refused for no reason
  pub not_both : (atom : Atom) (all : List StepOf) (reason : Reason) → IsProof net atom all → IsNoProof net atom all reason → ⊥
  not_both atom all (Step k) proof h = h.2 (goes_whole atom.from atom.to (k + 1) all proof.0)
  not_both atom all End proof h = h.2 (one_end net EveryLink all atom.from h.0 atom.to h.1 proof.0)
  not_both atom all Weak proof h = let e = proof.1 h.1 in let f = h.2 in cc
  not_both atom all (Number n) proof h = h
  not_both atom all (Size n) proof h = h
  not_both atom all (Order n) proof h = h
  not_both atom all (Link n) proof h = h
  not_both atom all (Calendar p q) proof h = h
  not_both atom all (Cited n) proof h = h
  not_both atom all Holds proof h = h

  -- the first step that does not go on is one
  one_step : (x j k : ℕ) (all : List StepOf) → StepsGoFrom net x (take k all) → (StepsGoFrom net x (take (j + 1) all) → ⊥) → k ≤ j
  one_step x j k all goes stops = elim (cases_lt j k) [
    | inl less ↦ absurd (stops (goes_less x (j + 1) k all (omega arith) goes))
    | inr le ↦ le
  ]

  -- steps are no walk for one reason
  pub one_reason : (atom : Atom) (all : List StepOf) (r s : Reason) → IsNoProof net atom all r → IsNoProof net atom all s → r ≡ s
  one_reason atom all (Step j) (Step k) h g =
      let le = one_step atom.from j k all g.1 h.2 in
      let ge = one_step atom.from k j all h.1 g.2 in
      ap (λ (n : ℕ). Step n) (omega arith)
  one_reason atom all (Step j) End h g = absurd (h.2 (goes_whole atom.from g.0 (j + 1) all g.1))
  one_reason atom all (Step j) Weak h g = absurd (h.2 (goes_whole atom.from atom.to (j + 1) all g.0))
  one_reason atom all End (Step k) h g = absurd (g.2 (goes_whole atom.from h.0 (k + 1) all h.1))
  one_reason atom all Weak (Step k) h g = absurd (g.2 (goes_whole atom.from atom.to (k + 1) all h.0))
  one_reason atom all End End h g = refl
  one_reason atom all End Weak h g = absurd (h.2 (one_end net EveryLink all atom.from h.0 atom.to h.1 g.0))
  one_reason atom all Weak End h g = absurd (g.2 (one_end net EveryLink all atom.from g.0 atom.to g.1 h.0))
  one_reason atom all Weak Weak h g = refl
  one_reason atom all (Number n) s h g = absurd h
  one_reason atom all (Size n) s h g = absurd h
  one_reason atom all (Order n) s h g = absurd h
  one_reason atom all (Link n) s h g = absurd h
  one_reason atom all (Calendar p q) s h g = absurd h
  one_reason atom all (Cited n) s h g = absurd h
  one_reason atom all Holds s h g = absurd h
  one_reason atom all r (Number n) h g = absurd g
  one_reason atom all r (Size n) h g = absurd g
  one_reason atom all r (Order n) h g = absurd g
  one_reason atom all r (Link n) h g = absurd g
  one_reason atom all r (Calendar p q) h g = absurd g
  one_reason atom all r (Cited n) h g = absurd g
  one_reason atom all r Holds h g = absurd g

  -- how far a walk was followed: where the first steps lead, and whether one of them is strict
  pub record IsFollowed (all : List StepOf) (i x y : ℕ) (strict : Bool) : Type 0 where
    pub joined : IsJoined net EveryLink (take i all) x y
    pub strict_so_far : strict ≡ has_strict net (take i all)

  -- one step more
  pub followed_more : (all : List StepOf) (i x y : ℕ) (strict either : Bool) (next : Atom) → i < length all → IsFollowed all i x y strict
      → GoesBy net EveryLink (get_or all i no_step) next → next.from ≡ y → either ≡ (strict || next.strict) → IsFollowed all (i + 1) x next.to either
  followed_more all i x y strict either next lt so_far goes from is = record {
    joined = subst (λ (some : List StepOf). IsJoined net EveryLink some x next.to) (sym (take_more all i no_step lt))
        (joined_push net EveryLink (take i all) (get_or all i no_step) next x y so_far.joined goes from);
    strict_so_far = is ∙ ap (λ (b : Bool). b || next.strict) so_far.strict_so_far
        ∙ ap (λ (b : Bool). has_strict net (take i all) || b) (sym (ap is_strict_order goes.0))
        ∙ sym (list_any_more (λ (step : StepOf). is_strict_order (atom_of net step)) all i no_step lt);
  }

  -- the next step does not go on
  pub stops_here : (all : List StepOf) (i x y : ℕ) (strict : Bool) → i < length all → IsFollowed all i x y strict
      → ((next : Atom) → atom_of net (get_or all i no_step) ≡ Some next → next.from ≡ y → ⊥) → StepsGoFrom net x (take (i + 1) all) → ⊥
  stops_here all i x y strict lt so_far none goes =
      let parts = joined_split net EveryLink (take i all) (get_or all i no_step ∷ []) x goes.0
      (subst (λ (some : List StepOf). IsJoined net EveryLink some x goes.0) (take_more all i no_step lt) goes.1) in
      let same = one_end net EveryLink (take i all) x parts.0 y parts.1 so_far.joined in
      none parts.2.0 parts.2.1.0 (parts.2.2 ∙ same)
