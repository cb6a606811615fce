-- Something holds, or it does not for a reason.
use Rattle.std.proofs.Common.{◌⊎◌, inl, inr, ℕ, Some, None}
use Rattle.net_core.specs.Firsts.{IsFirst}
use Rattle.net_core.proofs.FirstLaws.{first_or_none}
use Rattle.evidence_check.specs.declared.refusal.Reason.{Reason}

abbrev pub OrReason : Type 0 → (Reason → Type 0) → Type 0
OrReason Good Bad = Good ⊎ ((reason : Reason) × Bad reason)

module _ (Good : ℕ → Type 0) (Bad : ℕ → Reason → Type 0) (not_both : (i : ℕ) (reason : Reason) → Good i → Bad i reason → ⊥) (judged : (i : ℕ) → OrReason (Good i) (Bad i)) where
  decided : (i : ℕ) → OrReason (Good i) (Bad i) → Dec (Good i)
  decided i (inl good) = yes good
  decided i (inr bad) = no (λ good. not_both i bad.0 good bad.1)

  -- of some numbered things the first that does not hold, with the reason, or none
  pub first_bad : (n : ℕ) → IsFirst n Good None ⊎ ((i : ℕ) × (reason : Reason) × IsFirst n Good (Some i) × Bad i reason)
  first_bad n = elim (first_or_none n Good (λ i. decided i (judged i))) [
    | inl all ↦ inl all
    | inr first ↦ elim (judged first.0) [
      | inl good ↦ absurd (first.1.1 good)
      | inr bad ↦ inr (first.0, bad.0, first.1, bad.1)
    ]
  ]
