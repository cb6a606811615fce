-- Closed walks over the cited links, and why steps do not.
use Rattle.std.proofs.Common.{◌≡◌, inl, inr, ℕ, ◌+◌, ◌≤◌, false, List, [], ◌∷◌, length, take, Some, None, refl, sym, ap, subst, ◌∙◌, arith}
use Rattle.std.proofs.Math.Bool.{not}
use Rattle.std.proofs.lemmas.Bool.{cases_lt, not-false}
use Rattle.net_core.specs.Clashes.{Agrees, IsClosedOver}
use Rattle.net_core.specs.Firsts.{IsFirst}
use Rattle.net_core.specs.Fits.{EveryLink}
use Rattle.net_core.specs.Nets.{PlainNet}
use Rattle.net_core.specs.Steps.{atom_of}
use Rattle.net_core.specs.Walks.{IsJoined}
use Rattle.net_core.specs.declared.atom.Atom.{Atom}
use Rattle.net_core.specs.declared.step.Step.{Step as StepOf}
use Rattle.net_core.proofs.FirstLaws.{one_first}
use Rattle.net_core.proofs.WalkLaws.{joined_take, one_end}
use Rattle.evidence_check.specs.declared.refusal.Reason.{Reason}
use Rattle.evidence_check.specs.declared.refusal.Reason.TheVariants.{Number, Size, Order, Link, Calendar, Step, End, Weak, Cited, Holds}
use Rattle.evidence_check.specs.declared.walks.WalkEnd.{WalkEnd}
use Rattle.evidence_check.specs.Following.{StepsLeadTo}
use Rattle.evidence_check.specs.Refusals.{StepsGoOn, IsNoClosedWalk}
use Rattle.evidence_check.proofs.Proving.{goes_less}

module _ (net : PlainNet) where
  -- joined steps begin where their first order does
  pub start_is : (step : StepOf) (steps : List StepOf) (x y : ℕ) (a : Atom) → IsJoined net EveryLink (step ∷ steps) x y → atom_of net step ≡ Some a → a.from ≡ x
  start_is step steps x y a joined e =
      let same : joined.0 ≡ a = let f = joined.1.0 in cc in
      ap (λ (b : Atom). b.from) (sym same) ∙ joined.2

  -- joined steps that end where they begin do so wherever they are joined
  ends_alike : (steps : List StepOf) (x y z : ℕ) → IsJoined net EveryLink steps x x → IsJoined net EveryLink steps y z → y ≡ z
  ends_alike [] x y z h k = k
  ends_alike (step ∷ steps) x y z h k =
      let begins : k.0.from ≡ x = start_is step steps x x k.0 h k.1.0 in
      let same : y ≡ x = sym k.2 ∙ begins in
      same ∙ one_end net EveryLink (step ∷ steps) x x z h (subst (λ (w : ℕ). IsJoined net EveryLink (step ∷ steps) w z) same k)

  -- steps that lead back, one of them strict, are a closed walk
  pub leads_closed : (cites : List ℕ) (steps : List StepOf) (x : ℕ) (reached : WalkEnd) → StepsLeadTo net x steps reached → reached.at ≡ x → not reached.strict ≡ false
      → IsFirst (length net.links) (Agrees cites steps) None → IsClosedOver net cites steps
  leads_closed cites steps x reached leads back strict agree =
      ((x, (subst (λ (y : ℕ). IsJoined net EveryLink steps x y) back leads.0, λ asked. sym leads.1 ∙ not-false reached.strict strict)), agree)

  -- joined steps go on to each place before their end
  on_whole : (x y k : ℕ) (all : List StepOf) → IsJoined net EveryLink all x y → StepsGoOn net (take k all)
  on_whole x y k all joined = let part = joined_take net EveryLink all x y k joined in (x, (part.0, part.1))

  -- steps that are a closed walk over the cited links are refused for no reason
  pub closed_not_both : (cites : List ℕ) (all : List StepOf) (reason : Reason) → IsClosedOver net cites all → IsNoClosedWalk net cites all reason → ⊥
  closed_not_both cites all (Step k) closed h = h.2 (on_whole closed.0.0 closed.0.0 (k + 1) all closed.0.1.0)
  closed_not_both cites all End closed h = h.3 (ends_alike all closed.0.0 h.0 h.1 closed.0.1.0 h.2)
  closed_not_both cites all Weak closed h = let e = closed.0.1.1 refl in let f = h.2 in cc
  closed_not_both cites all (Cited link) closed h = h.1.1 (closed.1 link h.1.0)
  closed_not_both cites all (Number n) closed h = h
  closed_not_both cites all (Size n) closed h = h
  closed_not_both cites all (Order n) closed h = h
  closed_not_both cites all (Link n) closed h = h
  closed_not_both cites all (Calendar p q) closed h = h
  closed_not_both cites all Holds closed h = h

  -- the first step that does not go on is one
  one_stop : (j k : ℕ) (all : List StepOf) → StepsGoOn net (take k all) → (StepsGoOn net (take (j + 1) all) → ⊥) → k ≤ j
  one_stop j k all goes stops = elim (cases_lt j k) [
    | inl less ↦ absurd (stops (goes.0, goes_less net goes.0 (j + 1) k all (omega arith) goes.1))
    | inr le ↦ le
  ]

  -- steps are no closed walk for one reason
  pub one_closed : (cites : List ℕ) (all : List StepOf) (r s : Reason) → IsNoClosedWalk net cites all r → IsNoClosedWalk net cites all s → r ≡ s
  one_closed cites all (Step j) (Step k) h g =
      let le = one_stop j k all g.1 h.2 in
      let ge = one_stop k j all h.1 g.2 in
      ap (λ (n : ℕ). Step n) (omega arith)
  one_closed cites all (Step j) End h g = absurd (h.2 (on_whole g.0 g.1 (j + 1) all g.2))
  one_closed cites all (Step j) Weak h g = absurd (h.2 (on_whole g.0 g.0 (j + 1) all g.1))
  one_closed cites all (Step j) (Cited link) h g = absurd (h.2 (on_whole g.0.0 g.0.0 (j + 1) all g.0.1.0))
  one_closed cites all End (Step k) h g = absurd (g.2 (on_whole h.0 h.1 (k + 1) all h.2))
  one_closed cites all Weak (Step k) h g = absurd (g.2 (on_whole h.0 h.0 (k + 1) all h.1))
  one_closed cites all (Cited link) (Step k) h g = absurd (g.2 (on_whole h.0.0 h.0.0 (k + 1) all h.0.1.0))
  one_closed cites all End End h g = refl
  one_closed cites all Weak Weak h g = refl
  one_closed cites all End Weak h g = absurd (h.3 (ends_alike all g.0 h.0 h.1 g.1 h.2))
  one_closed cites all Weak End h g = absurd (g.3 (ends_alike all h.0 g.0 g.1 h.1 g.2))
  one_closed cites all End (Cited link) h g = absurd (h.3 (ends_alike all g.0.0 h.0 h.1 g.0.1.0 h.2))
  one_closed cites all (Cited link) End h g = absurd (g.3 (ends_alike all h.0.0 g.0 g.1 h.0.1.0 g.2))
  one_closed cites all Weak (Cited link) h g = absurd (let e = g.0.1.1 refl in let f = h.2 in cc)
  one_closed cites all (Cited link) Weak h g = absurd (let e = h.0.1.1 refl in let f = g.2 in cc)
  one_closed cites all (Cited m) (Cited n) h g = ap (λ (k : ℕ). Cited k) (same (one_first (length net.links) (Agrees cites all) (Some m) (Some n) h.1 g.1))
    where
      same : Some m ≡ Some n → m ≡ n
      same e = cc
  one_closed cites all (Number n) s h g = absurd h
  one_closed cites all (Size n) s h g = absurd h
  one_closed cites all (Order n) s h g = absurd h
  one_closed cites all (Link n) s h g = absurd h
  one_closed cites all (Calendar p q) s h g = absurd h
  one_closed cites all Holds s h g = absurd h
  one_closed cites all r (Number n) h g = absurd g
  one_closed cites all r (Size n) h g = absurd g
  one_closed cites all r (Order n) h g = absurd g
  one_closed cites all r (Link n) h g = absurd g
  one_closed cites all r (Calendar p q) h g = absurd g
  one_closed cites all r Holds h g = absurd g
