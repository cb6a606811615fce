-- A name is that of an interval, or of none.
use Rattle.std.proofs.Common.{◌≡◌, ℕ, zero, suc, List, [], ◌∷◌, refl, ap, ◌∙◌}
use mathlib.Core.List.{List-discrete}
use native.Mathlib.Decide.{ℕ_discrete}
use Rattle.tml_refs.specs.Documents.{IsNamed, PlainInterval, interval_name}

-- an interval has this name, or none has
pub named_or_not : (intervals : List PlainInterval) (name : List ℕ) → Dec ((i : ℕ) × IsNamed intervals name i)
named_or_not [] name = no (λ h. let at = h.1.1 in cc)
named_or_not (interval ∷ intervals) name = elim (List-discrete ℕ_discrete (interval_name interval) name) [
  | yes same ↦ yes (0, (interval, refl, same))
  | no other ↦ elim (named_or_not intervals name) [
    | yes later ↦ yes (suc later.0, later.1)
    | no none ↦ no (λ h. neither other none h.0 h.1)
  ]
]
  where
    neither : (interval_name interval ≡ name → ⊥) → ((i : ℕ) × IsNamed intervals name i → ⊥) → (i : ℕ) → IsNamed (interval ∷ intervals) name i → ⊥
    neither other none zero named = let same : interval ≡ named.0 = let at = named.1 in cc in other (ap interval_name same ∙ named.2)
    neither other none (suc i) named = none (i, named)
