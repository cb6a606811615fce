-- Seconds that are counted from the origin one after another.
use Rattle.std.proofs.Common.{◌≡◌, ℕ, ℤ, pos, ◌+◌, ◌<◌, ◌≤◌, ◌-ℤ◌, List, length, set, inl, inr, sym, ap, ◌∙◌, arith}
use Rattle.std.proofs.lemmas.Bool.{cases_lt}
use Rattle.std.proofs.lemmas.List.{get_or-set_other, get_or-set_same, length-set}
use Rattle.seconds_core.specs.Placed.{second_at}

module _ (old now : List ℤ) (point : ℕ) (zero this : ℤ) (lt : point < length now) where
  pub counted_more : ((p : ℕ) → p < point → second_at now p ≡ second_at old p -ℤ zero) → this ≡ second_at old point -ℤ zero → (p : ℕ) → p < point + 1 → second_at (set now point this) p ≡ second_at old p -ℤ zero
  counted_more so_far is p less = elim (cases_lt p point) [
    | inl before ↦ get_or-set_other now point p this (pos 0) (λ e. omega (arith, before, e)) ∙ so_far p before
    | inr last ↦ let same : p ≡ point = omega (arith, last, less) in ap (second_at (set now point this)) same ∙ get_or-set_same now point this (pos 0) lt ∙ is ∙ ap (λ q. second_at old q -ℤ zero) (sym same)
  ]

  pub others_yet : ((p : ℕ) → point ≤ p → p < length now → second_at now p ≡ second_at old p) → (p : ℕ) → point + 1 ≤ p → p < length (set now point this) → second_at (set now point this) p ≡ second_at old p
  others_yet so_far p after less = get_or-set_other now point p this (pos 0) (λ e. omega (arith, after, e)) ∙ so_far p (omega (arith, after)) (omega (arith, less, length-set now point this))
