-- The cites of a clash.
use Rattle.std.proofs.Common.{◌≡◌, ℕ, zero, suc, ◌<◌, ◌≤◌, inl, inr, List, length, map, refl, subst, le_antisymm, add-one, arith}
use Rattle.std.specs.List.Sorted.{IsStrictlyIncreasing}
use Rattle.std.proofs.lemmas.List.Kept.{AllPairs-from_increasing}
use Rattle.net_core.specs.Nets.{PlainNet}
use Rattle.net_core.specs.Ranks.{pairs_of}
use Rattle.net_core.specs.declared.step.Step.{Step}
use Rattle.evidence_format.specs.Evidence.{clash}
use Rattle.evidence_check.specs.Asked.{AreRisingLinks}
use Rattle.evidence_check.specs.Refusals.{cite_at}
use Rattle.evidence_check.specs.Supported.{AreLinks}
use Rattle.std.proofs.lemmas.List.Elements.{All-get_or}
use Rattle.std.proofs.lemmas.Bool.{cases_lt}

-- each of the numbers that rise is at least its place
at_least : (cites : List ℕ) → IsStrictlyIncreasing cites → (i : ℕ) → i < length cites → i ≤ cite_at cites i
at_least cites rise zero below = omega arith
at_least cites rise (suc i) below =
    let next : cite_at cites i < cite_at cites (suc i) = rw (← add-one i) (rise i (omega (arith, below))) in
    omega (arith, at_least cites rise i (omega (arith, below)), next)

-- so there are no more than the numbers that they are below
pub no_more : (cites : List ℕ) (n : ℕ) → IsStrictlyIncreasing cites → ((i : ℕ) → i < length cites → cite_at cites i < n) → length cites ≤ n
no_more cites n rise links = last (length cites) refl
  where
    last : (m : ℕ) → m ≡ length cites → m ≤ n
    last zero e = omega arith
    last (suc m) e = omega (arith, at_least cites rise m (omega (arith, e)), links m (omega (arith, e)))

-- what is true of all cites is true at each place
pub by_place : (net : PlainNet) (cites : List ℕ) → AreLinks net cites → (i : ℕ) → i < length cites → cite_at cites i < length net.links
by_place net cites all i below = All-get_or (λ (k : ℕ). k < length net.links) cites i 0 below all

pub rising_links : (net : PlainNet) (cites : List ℕ) → IsStrictlyIncreasing cites → ((i : ℕ) → i < length cites → cite_at cites i < length net.links) → AreRisingLinks net cites
rising_links net cites rise links = record {
  rise = λ i j before below. AllPairs-from_increasing cites rise i j 0 before below;
  links = links;
}

-- a clash of the same parts is the same
pub same_clash : (cites cs : List ℕ) (walk w : List Step) (spares ss : List (List ℕ)) → cs ≡ cites → w ≡ walk → ss ≡ spares
    → clash cs w (map pairs_of ss) ≡ clash cites walk (map pairs_of spares)
same_clash cites cs walk w spares ss e f g = λ i. clash (e i) (f i) (map pairs_of (g i))

-- of two links that are cited the one with the lower number is cited first
pub earlier_cite : (net : PlainNet) (cites : List ℕ) → AreRisingLinks net cites → (i k : ℕ) → i < length cites → cite_at cites i < cite_at cites k → i < k
earlier_cite net cites are i k below less = elim (cases_lt k i) [
  | inl before ↦ absurd (omega (arith, are.rise k i before below, less))
  | inr at_most ↦ elim (cases_lt i k) [
    | inl lt ↦ lt
    | inr other ↦ absurd (omega (arith, subst (λ (n : ℕ). cite_at cites i < cite_at cites n) (le_antisymm other at_most) less))
  ]
]
