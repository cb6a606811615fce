-- Marks of links: which are set once some links were marked.
use Rattle.std.proofs.Common.{◌≡◌, ◌↔◌, ◌⊎◌, inl, inr, ℕ, zero, suc, ◌+◌, ◌<◌, List, [], ◌∷◌, ◌++◌, length, take, get_or, Some, refl, sym, ap, subst, ◌∙◌, arith}
use Rattle.std.specs.List.{Contains}
use Rattle.std.proofs.lemmas.List.{take_more}
use Rattle.std.proofs.lemmas.List.Elements.{Contains-append_cases, Contains-append_left, Contains-append_right}
use Rattle.net_core.specs.Steps.{link_of}
use Rattle.net_core.specs.Walks.{GoesOver}
use Rattle.net_core.specs.declared.step.Step.{Step}

-- the elements of a list that is one longer
pub contains_more : {X : Type 0} (xs : List X) (i : ℕ) (d x : X) → i < length xs → Contains (take (i + 1) xs) x ↔ (Contains (take i xs) x ⊎ (x ≡ get_or xs i d))
contains_more {X} xs i d x below = (there, back)
  where
    longer : take (i + 1) xs ≡ take i xs ++ get_or xs i d ∷ []
    longer = take_more xs i d below

    single : (y : X) → Contains (y ∷ []) x → x ≡ y
    single y (zero, lt, e) = sym e
    single y (suc j, lt, e) = absurd (omega (arith, lt))

    there : Contains (take (i + 1) xs) x → Contains (take i xs) x ⊎ (x ≡ get_or xs i d)
    there h = elim (Contains-append_cases (take i xs) (get_or xs i d ∷ []) x (subst (λ (l : List X). Contains l x) longer h)) [
      | inl before ↦ inl before
      | inr last ↦ inr (single (get_or xs i d) last)
    ]

    back : Contains (take i xs) x ⊎ (x ≡ get_or xs i d) → Contains (take (i + 1) xs) x
    back h = subst (λ (l : List X). Contains l x) (sym longer) (elim h [
      | inl before ↦ Contains-append_left (take i xs) (get_or xs i d ∷ []) x before
      | inr e ↦ Contains-append_right (take i xs) (get_or xs i d ∷ []) x (0, omega arith, sym e)
    ])

-- the links that one step more goes over
pub goes_over_more : (steps : List Step) (i : ℕ) (d : Step) → i < length steps → (k : ℕ)
    → GoesOver (take (i + 1) steps) k ↔ (GoesOver (take i steps) k ⊎ (link_of (get_or steps i d) ≡ Some k))
goes_over_more steps i d below k = (there, back)
  where
    there : GoesOver (take (i + 1) steps) k → GoesOver (take i steps) k ⊎ (link_of (get_or steps i d) ≡ Some k)
    there h = elim ((contains_more steps i d h.0 below).0 h.1) [
      | inl before ↦ inl (h.0, before, h.2)
      | inr last ↦ inr (ap link_of (sym last) ∙ h.2)
    ]

    back : GoesOver (take i steps) k ⊎ (link_of (get_or steps i d) ≡ Some k) → GoesOver (take (i + 1) steps) k
    back h = elim h [
      | inl before ↦ (before.0, (contains_more steps i d before.0 below).1 (inl before.1), before.2)
      | inr e ↦ (get_or steps i d, (contains_more steps i d (get_or steps i d) below).1 (inr refl), e)
    ]

-- what holds of marks, or of more and then of still more, holds of marks or of all that was added
pub then_more : (Now Before Old More Last All : Type 0) → Now ↔ (Before ⊎ Last) → Before ↔ (Old ⊎ More) → All ↔ (More ⊎ Last) → Now ↔ (Old ⊎ All)
then_more Now Before Old More Last All now before all = (there, here)
  where
    there : Now → Old ⊎ All
    there n = elim (now.0 n) [
      | inl was ↦ elim (before.0 was) [
        | inl old ↦ inl old
        | inr more ↦ inr (all.1 (inl more))
      ]
      | inr last ↦ inr (all.1 (inr last))
    ]

    here : Old ⊎ All → Now
    here h = now.1 (elim h [
      | inl old ↦ inl (before.1 (inl old))
      | inr every ↦ elim (all.0 every) [
        | inl more ↦ inl (before.1 (inr more))
        | inr last ↦ inr last
      ]
    ])
