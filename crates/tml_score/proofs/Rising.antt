-- Lists that rise.
use Rattle.std.proofs.Common.{◌≡◌, ◌↔◌, ◌⊎◌, inl, inr, ℕ, zero, suc, ◌+◌, ◌<◌, ◌≤◌, List, [], ◌∷◌, length, slice_index, refl, sym, subst, ◌∙◌, arith}
use Rattle.std.specs.List.{All, Contains}
use Rattle.std.specs.List.Sorted.{IsStrictlyIncreasing}
use Rattle.std.proofs.lemmas.Bool.{cases_eq, cases_lt}
use Rattle.std.proofs.lemmas.List.{get_or_default}
use Rattle.clash.proofs.Elements.{first_in, first_or_rest, rest_in}

-- whether a number is in a list
pub member_or_not : (xs : List ℕ) (k : ℕ) → Contains xs k ⊎ (Contains xs k → ⊥)
member_or_not [] k = inr (λ h. let lt = h.1 in omega arith)
member_or_not (x ∷ xs) k = elim (cases_eq x k) [
  | inl same ↦ inl (0, omega arith, same)
  | inr other ↦ elim (member_or_not xs k) [
    | inl among ↦ inl (rest_in x xs k among)
    | inr not ↦ inr (λ h. elim (first_or_rest x xs k h) [ inl e ↦ other e | inr among ↦ not among ])
  ]
]

-- the first two elements after any number of others
next_above : (x : ℕ) (xs : List ℕ) → IsStrictlyIncreasing (x ∷ xs) → (i : ℕ) → suc i < length xs → slice_index xs i < slice_index xs (suc i)
next_above x xs rising i lt =
    let next : suc i + 1 ≡ suc (suc i) = omega arith in
    subst (λ (n : ℕ). slice_index xs i < slice_index (x ∷ xs) n) next (rising (suc i) (omega (arith, lt)))

tail_rises : (x : ℕ) (xs : List ℕ) → IsStrictlyIncreasing (x ∷ xs) → IsStrictlyIncreasing xs
tail_rises x xs rising i lt =
    let next : suc i ≡ i + 1 = omega arith in
    subst (λ (n : ℕ). slice_index xs i < slice_index xs n) next (next_above x xs rising i (omega (arith, lt)))

-- the first element is below the others
first_below : (x : ℕ) (xs : List ℕ) → IsStrictlyIncreasing (x ∷ xs) → (i : ℕ) → i < length xs → x < slice_index xs i
first_below x xs rising zero lt = rising 0 (omega (arith, lt))
first_below x xs rising (suc i) lt =
    let before = first_below x xs rising i (omega (arith, lt)) in
    let step = next_above x xs rising i lt in
    omega arith

first_least : (x : ℕ) (xs : List ℕ) (k : ℕ) → IsStrictlyIncreasing (x ∷ xs) → Contains xs k → x < k
first_least x xs k rising (i, lt, e) = let less = first_below x xs rising i lt in let same : slice_index xs i ≡ k = get_or_default xs i 0 k lt ∙ e in omega arith

-- two lists that rise and have the same elements are one
pub one_rising : (xs ys : List ℕ) → IsStrictlyIncreasing xs → IsStrictlyIncreasing ys → ((k : ℕ) → Contains xs k ↔ Contains ys k) → xs ≡ ys
one_rising [] [] rx ry same = refl
one_rising [] (y ∷ ys) rx ry same = absurd (let lt = ((same y).1 (first_in y ys)).1 in omega arith)
one_rising (x ∷ xs) [] rx ry same = absurd (let lt = ((same x).0 (first_in x xs)).1 in omega arith)
one_rising (x ∷ xs) (y ∷ ys) rx ry same =
    let firsts : x ≡ y = elim (first_or_rest y ys x ((same x).0 (first_in x xs))) [
      | inl e ↦ sym e
      | inr later ↦ elim (first_or_rest x xs y ((same y).1 (first_in y ys))) [
        | inl e ↦ e
        | inr after ↦ absurd (let a = first_least y ys x ry later in let b = first_least x xs y rx after in omega arith)
      ]
    ] in
    let rests = one_rising xs ys (tail_rises x xs rx) (tail_rises y ys ry) (λ k. (
      λ among. elim (first_or_rest y ys k ((same k).0 (rest_in x xs k among))) [
        | inl e ↦ absurd (let lt = first_least x xs k rx among in omega (arith, lt, firsts, e))
        | inr rest ↦ rest
      ],
      λ among. elim (first_or_rest x xs k ((same k).1 (rest_in y ys k among))) [
        | inl e ↦ absurd (let lt = first_least y ys k ry among in omega (arith, lt, firsts, e))
        | inr rest ↦ rest
      ],
    )) in
    λ i. firsts i ∷ rests i

-- an element is no less than its place
no_less : (xs : List ℕ) → IsStrictlyIncreasing xs → (i : ℕ) → i < length xs → i ≤ slice_index xs i
no_less xs rising zero lt = omega arith
no_less xs rising (suc i) lt =
    let before = no_less xs rising i (omega (arith, lt)) in
    let next : i + 1 ≡ suc i = omega arith in
    let step : slice_index xs i < slice_index xs (suc i) = subst (λ (n : ℕ). slice_index xs i < slice_index xs n) next (rising i (omega (arith, lt))) in
    omega arith

-- a list of numbers below n has n elements at most
pub few_rising : (n : ℕ) (xs : List ℕ) → IsStrictlyIncreasing xs → All (λ (k : ℕ). k < n) xs → length xs ≤ n
few_rising n xs rising below = elim (cases_lt n (length xs)) [
  | inl more ↦ absurd (let low = no_less xs rising n more in let high = below n 0 more in omega arith)
  | inr few ↦ few
]
