-- The numbers of marked links, in a list that rises.
use Rattle.std.proofs.Common.{◌≡◌, ◌↔◌, inl, inr, ℕ, zero, suc, ◌+◌, ◌<◌, Bool, true, false, List, [], ◌∷◌, ◌++◌, length, slice_index, slice_index_or, refl, sym, subst, ◌∙◌, arith, length-append}
use Rattle.std.specs.List.{All, Contains}
use Rattle.std.specs.List.Sorted.{IsStrictlyIncreasing}
use Rattle.std.proofs.lemmas.Bool.{cases_lt}
use Rattle.std.proofs.lemmas.List.{get_or_append_left, get_or_past, get_or_push}
use Rattle.std.proofs.lemmas.List.Elements.{Contains-append_cases, Contains-append_left, Contains-append_right}
use Rattle.net_core.specs.Walks.{Kept}

-- exactly the marked numbers below k stand in the list, and it rises
pub record AreMarked (marks : List Bool) (k : ℕ) (links : List ℕ) : Type 0 where
  pub rising : IsStrictlyIncreasing links
  pub below : All (λ (j : ℕ). j < k) links
  pub exact : (j : ℕ) → Contains links j ↔ ((j < k) × Kept marks j)

-- a number above all others stands last
rising_push : (links : List ℕ) (k : ℕ) → IsStrictlyIncreasing links → All (λ (j : ℕ). j < k) links → IsStrictlyIncreasing (links ++ k ∷ [])
rising_push links k rising below i lt = elim (cases_lt (i + 1) (length links)) [
  | inl less ↦
      let first : slice_index (links ++ k ∷ []) i ≡ slice_index links i = get_or_append_left links (k ∷ []) 0 i (omega arith) in
      let second : slice_index (links ++ k ∷ []) (i + 1) ≡ slice_index links (i + 1) = get_or_append_left links (k ∷ []) 0 (i + 1) less in
      omega (arith, first, second, rising i less)
  | inr not ↦
      let end : i + 1 ≡ length links = omega (arith, not, lt, length-append links (k ∷ [])) in
      let first : slice_index (links ++ k ∷ []) i ≡ slice_index links i = get_or_append_left links (k ∷ []) 0 i (omega arith) in
      let second : slice_index (links ++ k ∷ []) (i + 1) ≡ k = get_or_push links k 0 (i + 1) (sym end) in
      omega (arith, first, second, below i 0 (omega arith))
]

below_push : (links : List ℕ) (k : ℕ) → All (λ (j : ℕ). j < k) links → All (λ (j : ℕ). j < k + 1) (links ++ k ∷ [])
below_push links k below i d lt = elim (cases_lt i (length links)) [
  | inl less ↦ omega (arith, get_or_append_left links (k ∷ []) d i less, below i d less)
  | inr not ↦
      let end : i ≡ length links = omega (arith, not, lt, length-append links (k ∷ [])) in
      let is : slice_index_or (links ++ k ∷ []) i d ≡ k = get_or_push links k d i (sym end) in
      omega (arith, is)
]

-- one number more, which is marked
pub marked_push : (marks : List Bool) (k : ℕ) (links : List ℕ) → AreMarked marks k links → Kept marks k → AreMarked marks (k + 1) (links ++ k ∷ [])
marked_push marks k links are kept = record {
  rising = rising_push links k are.rising are.below;
  below = below_push links k are.below;
  exact = λ j. (there j, here j);
}
  where
    there : (j : ℕ) → Contains (links ++ k ∷ []) j → (j < k + 1) × Kept marks j
    there j h = elim (Contains-append_cases links (k ∷ []) j h) [
      | inl old ↦ let both = (are.exact j).0 old in (omega (arith, both.0), both.1)
      | inr new ↦ let is : k ≡ j = single new in (omega (arith, is), subst (Kept marks) is kept)
    ]
      where
        single : Contains (k ∷ []) j → k ≡ j
        single (zero, lt, e) = e
        single (suc i, lt, e) = absurd (omega (arith, lt))

    here : (j : ℕ) → ((j < k + 1) × Kept marks j) → Contains (links ++ k ∷ []) j
    here j both = elim (cases_lt j k) [
      | inl less ↦ Contains-append_left links (k ∷ []) j ((are.exact j).1 (less, both.1))
      | inr not ↦ let is : k ≡ j = omega (arith, not, both.0) in Contains-append_right links (k ∷ []) j (0, omega arith, is)
    ]

-- one number more, which is not
pub marked_skip : (marks : List Bool) (k : ℕ) (links : List ℕ) → AreMarked marks k links → (Kept marks k → ⊥) → AreMarked marks (k + 1) links
marked_skip marks k links are not = record {
  rising = are.rising;
  below = λ i d lt. omega (arith, are.below i d lt);
  exact = λ j. (
    λ h. let both = (are.exact j).0 h in (omega (arith, both.0), both.1),
    λ both. elim (cases_lt j k) [
      | inl less ↦ (are.exact j).1 (less, both.1)
      | inr last ↦ let is : j ≡ k = omega (arith, last, both.0) in absurd (not (subst (Kept marks) is both.1))
    ],
  );
}

-- past the marks nothing is marked
pub kept_within : (marks : List Bool) (k : ℕ) → Kept marks k → k < length marks
kept_within marks k kept = elim (cases_lt k (length marks)) [
  | inl lt ↦ lt
  | inr past ↦ absurd (let e = get_or_past marks k false past in let both : false ≡ true = sym e ∙ kept in cc)
]

-- the marked numbers below any number stand in such a list
pub every_marked : (marks : List Bool) (k : ℕ) → (links : List ℕ) × AreMarked marks k links
every_marked marks zero = (
  [],
  record {
    rising = λ i lt. absurd (omega arith);
    below = λ i d lt. absurd (omega arith);
    exact = λ j. (λ among. let lt = among.1 in absurd (omega arith), λ both. let lt = both.0 in absurd (omega arith));
  },
)
every_marked marks (suc k) =
    let so_far = every_marked marks k in
    let same : k + 1 ≡ suc k = omega arith in
    subst (λ (n : ℕ). (links : List ℕ) × AreMarked marks n links) same (elim (slice_index_or marks k false) as (λ b. slice_index_or marks k false ≡ b → (links : List ℕ) × AreMarked marks (k + 1) links) [
      | true ↦ λ e. (so_far.0 ++ k ∷ [], marked_push marks k so_far.0 so_far.1 e)
      | false ↦ λ e. (so_far.0, marked_skip marks k so_far.0 so_far.1 (λ kept. let both : false ≡ true = sym e ∙ kept in cc))
    ] refl)
