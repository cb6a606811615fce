-- The two parts of a list that is cut where a test begins to fail.
use Rattle.std.proofs.Common.{◌≡◌, ◌↔◌, ◌⊎◌, ℕ, ◌+◌, ◌<◌, nat_le, nat_lt, Bool, true, false, List, length, take, drop, sym, subst, ◌∙◌, arith, inl, inr, length-take, length-drop}
use Rattle.std.specs.List.{All, AllWithin, Contains}
use Rattle.std.specs.List.Sorted.{IsPartitionPoint}
use Rattle.std.proofs.lemmas.Bool.{le-leb, le-ltb, leb-true, ltb-false}
use Rattle.std.proofs.lemmas.List.{get_or-drop, get_or-take, take-append-drop}
use Rattle.std.proofs.lemmas.List.Elements.{All-contains, Contains-append_cases, Contains-append_left, Contains-append_right}

-- what is true up to n is true of the first part
prefix : {X : Type 0} (P : X → Type 0) (xs : List X) (n : ℕ) → AllWithin P xs 0 n → All P (take n xs)
prefix P xs n all k d lk = let lt : k < n = omega (arith, length-take n xs) in rw get_or-take (all k d (omega arith) lt)

-- what is true from n on is true of the second part
suffix : {X : Type 0} (P : X → Type 0) (xs : List X) (n : ℕ) → AllWithin P xs n (length xs) → All P (drop n xs)
suffix P xs n all k d lk = rw get_or-drop (all (n + k) d (omega arith) (omega (arith, length-drop n xs)))

module _ {X : Type 0} (p : X → Bool) (xs : List X) (n : ℕ) (cut : IsPartitionPoint (λ x. p x ≡ true) (λ x. p x ≡ false) xs n) where
  -- each element is in one of the parts
  in_part : (x : X) → Contains xs x → Contains (take n xs) x ⊎ Contains (drop n xs) x
  in_part x h = Contains-append_cases (take n xs) (drop n xs) x (subst (λ (ys : List X). Contains ys x) (sym (take-append-drop n xs)) h)

  -- the first part has the elements that pass
  pub taken : (x : X) → Contains (take n xs) x ↔ (Contains xs x × (p x ≡ true))
  taken x = (
    λ h. (subst (λ (ys : List X). Contains ys x) (take-append-drop n xs) (Contains-append_left (take n xs) (drop n xs) x h), All-contains (λ (y : X). p y ≡ true) (take n xs) x (prefix (λ (y : X). p y ≡ true) xs n cut.0) h),
    λ h. elim (in_part x h.0) [
      | inl first ↦ first
      | inr second ↦ let fails = All-contains (λ (y : X). p y ≡ false) (drop n xs) x (suffix (λ (y : X). p y ≡ false) xs n cut.1) second in let both : true ≡ false = sym h.1 ∙ fails in cc
    ],
  )

  -- the second part has those that fail
  pub dropped : (x : X) → Contains (drop n xs) x ↔ (Contains xs x × (p x ≡ false))
  dropped x = (
    λ h. (subst (λ (ys : List X). Contains ys x) (take-append-drop n xs) (Contains-append_right (take n xs) (drop n xs) x h), All-contains (λ (y : X). p y ≡ false) (drop n xs) x (suffix (λ (y : X). p y ≡ false) xs n cut.1) h),
    λ h. elim (in_part x h.0) [
      | inr second ↦ second
      | inl first ↦ let passes = All-contains (λ (y : X). p y ≡ true) (take n xs) x (prefix (λ (y : X). p y ≡ true) xs n cut.0) first in let both : true ≡ false = sym passes ∙ h.1 in cc
    ],
  )

-- the elements with a key lie between those with a lower one and those with a higher one
pub between : {X : Type 0} (key : X → ℕ) (k : ℕ) (xs rest : List X) (first count : ℕ) → rest ≡ drop first xs
    → IsPartitionPoint (λ x. nat_lt (key x) k ≡ true) (λ x. nat_lt (key x) k ≡ false) xs first
    → IsPartitionPoint (λ x. nat_le (key x) k ≡ true) (λ x. nat_le (key x) k ≡ false) rest count
    → (x : X) → Contains (take count rest) x ↔ (Contains xs x × (key x ≡ k))
between {X} key k xs rest first count same below upto x =
    let later = dropped (λ y. nat_lt (key y) k) xs first below x in
    let some = taken (λ y. nat_le (key y) k) rest count upto x in (
      λ h. let is = some.0 h in let was = later.0 (subst (λ (ys : List X). Contains ys x) same is.0) in (was.0, omega (arith, leb-true (key x) k is.1, ltb-false (key x) k was.1)),
      λ h. some.1 (subst (λ (ys : List X). Contains ys x) (sym same) (later.1 (h.0, le-ltb (key x) k (omega (arith, h.1)))), le-leb (key x) k (omega (arith, h.1))),
    )
