-- Checks one after another: the first that fails is one, and so is how it fails.
use Rattle.std.proofs.Common.{◌≡◌, ◌⊎◌, inl, inr}
use Rattle.evidence_check.specs.declared.refusal.Refused.{Refused}

-- What a check asks for is not refused, and a refusal is one.
pub record IsCheck (Good : Type 0) (Bad : Refused → Type 0) : Type 0 where
  pub not_both : (r : Refused) → Good → Bad r → ⊥
  pub once : (r s : Refused) → Bad r → Bad s → r ≡ s

-- a check that asks for no less, and refuses for no more reasons
pub by_check : {Good Better : Type 0} {Bad Less : Refused → Type 0} → (Better → Good) → ((r : Refused) → Less r → Bad r) → IsCheck Good Bad → IsCheck Better Less
by_check asks refuses check = record {
  not_both = λ r better less. check.not_both r (asks better) (refuses r less);
  once = λ r s less other. check.once r s (refuses r less) (refuses s other);
}

-- one check, and where it passes another
pub two_checks : {First Second : Type 0} {Bad Worse : Refused → Type 0} → IsCheck First Bad → IsCheck Second Worse → IsCheck (First × Second) (λ r. Bad r ⊎ (First × Worse r))
two_checks {First} {Second} {Bad} {Worse} first second = record { not_both = not_both; once = once }
  where
    not_both : (r : Refused) → First × Second → Bad r ⊎ (First × Worse r) → ⊥
    not_both r good (inl bad) = first.not_both r good.0 bad
    not_both r good (inr bad) = second.not_both r good.1 bad.1

    once : (r s : Refused) → Bad r ⊎ (First × Worse r) → Bad s ⊎ (First × Worse s) → r ≡ s
    once r s (inl bad) (inl other) = first.once r s bad other
    once r s (inl bad) (inr other) = absurd (first.not_both r other.0 bad)
    once r s (inr bad) (inl other) = absurd (first.not_both s bad.0 other)
    once r s (inr bad) (inr other) = second.once r s bad.1 other.1

-- and where both pass a third
pub three_checks : {First Second Third : Type 0} {Bad Worse Worst : Refused → Type 0} → IsCheck First Bad → IsCheck Second Worse → IsCheck Third Worst
    → IsCheck (First × Second × Third) (λ r. Bad r ⊎ (First × Worse r) ⊎ (First × Second × Worst r))
three_checks {First} {Second} {Third} {Bad} {Worse} {Worst} first second third = by_check (λ all. (all.0, (all.1, all.2))) grouped (two_checks first (two_checks second third))
  where
    grouped : (r : Refused) → Bad r ⊎ (First × Worse r) ⊎ (First × Second × Worst r) → Bad r ⊎ (First × (Worse r ⊎ (Second × Worst r)))
    grouped r (inl bad) = inl bad
    grouped r (inr (inl worse)) = inr (worse.0, inl worse.1)
    grouped r (inr (inr worst)) = inr (worst.0, inr (worst.1, worst.2))
