-- Marks of links: which are set once some links were marked.
use Rattle.std.proofs.Common.{◌≡◌, ◌↔◌, ◌⊎◌, inl, inr, ℕ, ◌<◌, Bool, true, false, List, length, replicate, slice_index_or, Some, refl, sym, subst, ◌∙◌, arith}
use Rattle.std.specs.List.{All, Contains}
use Rattle.std.proofs.Math.Bool.{beq, not}
use Rattle.std.proofs.lemmas.Bool.Decides.{same_from_decides}
use Rattle.std.proofs.lemmas.List.{get_or-replicate}
use Rattle.std.proofs.lemmas.List.Elements.{All-contains}
use Rattle.net_core.specs.Limits.{max_links}
use Rattle.net_core.specs.Steps.{Uses, link_of}
use Rattle.net_core.specs.Walks.{GoesOver, Kept}
use Rattle.net_core.specs.declared.step.Step.{Step}
use Rattle.net_core.specs.declared.step.Step.TheVariants.{Link, Span, Calendar}
use Rattle.net_core.specs.Clashes.{Agrees}

-- exactly the links of a set are marked
abbrev pub AreMarked : List Bool → (ℕ → Type 0) → Type 0
AreMarked marks Chosen = (k : ℕ) → k < max_links → (slice_index_or marks k false ≡ true) ↔ Chosen k

-- where none was before, those are that were marked since
pub newly_marked : (new : List Bool) (Chosen : ℕ → Type 0) → length new ≡ max_links
    → ((k : ℕ) → k < length new → Kept new k ↔ (Kept (replicate max_links false) k ⊎ Chosen k)) → AreMarked new Chosen
newly_marked new Chosen size marked k below = (there, λ chosen. (marked k inside).1 (inr chosen))
  where
    inside : k < length new
    inside = omega (arith, below, size)

    none : Kept (replicate max_links false) k → Chosen k
    none e = let f = get_or-replicate max_links k false false below in absurd cc

    there : Kept new k → Chosen k
    there e = elim ((marked k inside).0 e) [
      | inl was ↦ none was
      | inr is ↦ is
    ]

-- marks are alike exactly where a walk agrees with cites
pub alike : (cited traversed : List Bool) (cites : List ℕ) (steps : List Step) → AreMarked cited (Contains cites) → AreMarked traversed (GoesOver steps)
    → (k : ℕ) → k < max_links → (slice_index_or cited k false ≡ slice_index_or traversed k false) ↔ Agrees cites steps k
alike cited traversed cites steps marked walked k below = (there, back)
  where
    there : slice_index_or cited k false ≡ slice_index_or traversed k false → Agrees cites steps k
    there e = (λ goes. (marked k below).0 (e ∙ (walked k below).1 goes), λ cites. (walked k below).0 (sym e ∙ (marked k below).1 cites))

    back : Agrees cites steps k → slice_index_or cited k false ≡ slice_index_or traversed k false
    back agrees = same_from_decides (slice_index_or cited k false) (slice_index_or traversed k false)
        (λ e. (walked k below).1 (agrees.1 ((marked k below).0 e)), λ e. (marked k below).1 (agrees.0 ((walked k below).0 e))) (λ e. e, λ e. e)

-- the link that a step goes over is one of a set where the step uses no other
uses_link : (Chosen : ℕ → Type 0) (step : Step) (k : ℕ) → link_of step ≡ Some k → Uses Chosen step → Chosen k
uses_link Chosen (Link link atom) k e uses = let same : link ≡ k = cc in subst Chosen same uses
uses_link Chosen (Span i) k e uses = absurd cc
uses_link Chosen (Calendar p q) k e uses = absurd cc

-- a walk agrees with cites that it all goes over, where it goes over them alone
pub all_agree : (cited traversed : List Bool) (cites : List ℕ) (steps : List Step) → AreMarked cited (Contains cites) → AreMarked traversed (GoesOver steps)
    → All (Kept traversed) cites → All (Uses (Kept cited)) steps → (k : ℕ) → k < max_links → Agrees cites steps k
all_agree cited traversed cites steps marked walked over alone k below = (
  λ goes. (marked k below).0 (uses_link (Kept cited) goes.0 k goes.2 (All-contains (Uses (Kept cited)) steps goes.0 alone goes.1)),
  λ cite. (walked k below).0 (All-contains (Kept traversed) cites k over cite),
)

-- of two marks
pub are_apart : (a b : Bool) → not (beq a b) ≡ true → a ≡ b → ⊥
are_apart true true e f = cc
are_apart true false e f = cc
are_apart false true e f = cc
are_apart false false e f = cc

pub are_alike : (a b : Bool) → not (beq a b) ≡ false → a ≡ b
are_alike true true e = refl
are_alike true false e = absurd cc
are_alike false true e = absurd cc
are_alike false false e = refl
