-- A list has a first fault, or no element of it breaks a rule, where it is decided which rules an element breaks.
use Rattle.std.proofs.Common.{◌⊎◌, inl, inr, ℕ, ◌≤◌, List, [], ◌∷◌, ◌++◌, refl, append_assoc, append-nil, arith}
use Rattle.std.specs.List.{All, Contains}
use Rattle.std.proofs.lemmas.Bool.{cases_lt}
use Rattle.std.proofs.lemmas.List.Elements.{All-nil, All-cons, All-contains, All-weaker}
use Rattle.faults.specs.First.{FirstBrokenRule, NoneBreaks}
use Rattle.faults.proofs.First.{none_breaks_nil, none_breaks_more}

module _ {E R : Type 0} (breaks : R → List E → E → Type 0) (number : R → ℕ) (place_of : E → ℕ) where
  -- of some rules an element breaks this one, and none with a lesser number
  record IsLeastOf (before : List E) (element : E) (rules : List R) (rule : R) : Type 0 where
    broken : breaks rule before element
    least : All (λ other. breaks other before element → number rule ≤ number other) rules

  abbrev LeastOrNone : List E → E → List R → Type 0
  LeastOrNone before element rules = ((rule : R) × IsLeastOf before element rules rule) ⊎ All (λ other. breaks other before element → ⊥) rules

  -- a rule more, which is broken
  broken_too : (before : List E) (element : E) (rule : R) (rules : List R) → breaks rule before element → LeastOrNone before element rules → LeastOrNone before element (rule ∷ rules)
  broken_too before element rule rules broken (inl (found, least)) = elim (cases_lt (number found) (number rule)) [
    | inl less ↦ inl (found, record { broken = least.broken; least = All-cons (λ other. breaks other before element → number found ≤ number other) rule rules (λ _. omega arith) least.least })
    | inr more ↦ inl (
      rule,
      record {
        broken = broken;
        least = All-cons (λ other. breaks other before element → number rule ≤ number other) rule rules (λ _. omega arith)
            (All-weaker (λ other. breaks other before element → number found ≤ number other) (λ other. breaks other before element → number rule ≤ number other) (λ other le b. let less = le b in omega arith) rules least.least);
      },
    )
  ]
  broken_too before element rule rules broken (inr none) = inl (
    rule,
    record {
      broken = broken;
      least = All-cons (λ other. breaks other before element → number rule ≤ number other) rule rules (λ _. omega arith)
          (All-weaker (λ other. breaks other before element → ⊥) (λ other. breaks other before element → number rule ≤ number other) (λ other never b. absurd (never b)) rules none);
    },
  )

  -- a rule more, which is not
  kept_too : (before : List E) (element : E) (rule : R) (rules : List R) → (breaks rule before element → ⊥) → LeastOrNone before element rules → LeastOrNone before element (rule ∷ rules)
  kept_too before element rule rules kept (inl (found, least)) = inl (found, record { broken = least.broken; least = All-cons (λ other. breaks other before element → number found ≤ number other) rule rules (λ b. absurd (kept b)) least.least })
  kept_too before element rule rules kept (inr none) = inr (All-cons (λ other. breaks other before element → ⊥) rule rules kept none)

  module _ (decided : (rule : R) (before : List E) (element : E) → Dec (breaks rule before element)) where
    least_or_none : (before : List E) (element : E) (rules : List R) → LeastOrNone before element rules
    least_or_none before element [] = inr (All-nil (λ other. breaks other before element → ⊥))
    least_or_none before element (rule ∷ rules) = elim (decided rule before element) [
      | yes broken ↦ broken_too before element rule rules broken (least_or_none before element rules)
      | no kept ↦ kept_too before element rule rules kept (least_or_none before element rules)
    ]

    module _ (rules : List R) (all : (rule : R) → Contains rules rule) where
      abbrev pub FirstOrNone : List E → Type 0
      FirstOrNone elements = ((place : ℕ) × (rule : R) × FirstBrokenRule breaks number place_of elements place rule) ⊎ NoneBreaks breaks elements

      first_from : (rest before : List E) → NoneBreaks breaks before → FirstOrNone (before ++ rest)
      first_from [] before none = rw (append-nil before) (inr none)
      first_from (element ∷ rest) before none = elim (least_or_none before element rules) [
        | inl least ↦ inl (
          place_of element,
          least.0,
          record {
            before = before;
            element = element;
            after = rest;
            whole = refl;
            none_before = none;
            broken = least.1.broken;
            least = λ other. All-contains (λ r. breaks r before element → number least.0 ≤ number r) rules other least.1.least (all other);
            place_is = refl;
          },
        )
        | inr here ↦
            rw (← append_assoc before (element ∷ []) rest)
            (first_from rest (before ++ element ∷ []) (none_breaks_more breaks before element none (λ other. All-contains (λ r. breaks r before element → ⊥) rules other here (all other))))
      ]

      pub first_or_none : (elements : List E) → FirstOrNone elements
      first_or_none elements = first_from elements [] (none_breaks_nil breaks)
