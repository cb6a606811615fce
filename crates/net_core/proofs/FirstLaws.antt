-- What is found first is the only one, and is found where it is decided of each number.
use Rattle.std.proofs.Common.{◌≡◌, ◌⊎◌, inl, inr, ℕ, zero, suc, ◌<◌, arith, Option, Some, None, IfNone, refl, sym, ap, subst, below_more}
use Rattle.net_core.specs.Firsts.{IsFirst, IsFirstPair}

-- ---- one at most

-- two numbers of which neither is less are one
pub neither_less : (i j : ℕ) → (i < j → ⊥) → (j < i → ⊥) → i ≡ j
neither_less i j h k = omega arith

-- of two first numbers the other would have been found before the greater one
same_number : (n : ℕ) (Holds : ℕ → Type 0) (i j : ℕ) → IsFirst n Holds (Some i) → IsFirst n Holds (Some j) → i ≡ j
same_number n Holds i j h k = neither_less i j (λ lt. h.1 (k.2 i lt)) (λ lt. k.1 (h.2 j lt))

-- one number is first, or none is
pub one_first : (n : ℕ) (Holds : ℕ → Type 0) (o p : Option ℕ) → IsFirst n Holds o → IsFirst n Holds p → o ≡ p
one_first n Holds None None h k = refl
one_first n Holds None (Some j) h k = absurd (k.1 (h j k.0))
one_first n Holds (Some i) None h k = absurd (h.1 (k i h.0))
one_first n Holds (Some i) (Some j) h k = ap (λ (m : ℕ). Some m) (same_number n Holds i j h k)

-- the same of two first pairs, by their first numbers and then by their second ones
same_pair : (n : ℕ) (Holds : ℕ → ℕ → Type 0) (x y : ℕ × ℕ) → IsFirstPair n Holds (Some x) → IsFirstPair n Holds (Some y) → x ≡ y
same_pair n Holds x y h k =
    let left = neither_less x.0 y.0 (λ lt. h.1.1 (k.2 x.0 x.1 lt h.1.0)) (λ lt. k.1.1 (h.2 y.0 y.1 lt k.1.0)) in
    let right = same_number n (Holds x.0) x.1 y.1 h.1 (subst (λ (p : ℕ). IsFirst n (Holds p) (Some y.1)) (sym left) k.1) in
    λ i. (left i, right i)

-- one pair is first, or none is
pub one_first_pair : (n : ℕ) (Holds : ℕ → ℕ → Type 0) (o p : Option (ℕ × ℕ)) → IsFirstPair n Holds o → IsFirstPair n Holds p → o ≡ p
one_first_pair n Holds None None h k = refl
one_first_pair n Holds None (Some y) h k = absurd (k.1.1 (h y.0 y.1 k.0 k.1.0))
one_first_pair n Holds (Some x) None h k = absurd (h.1.1 (k x.0 x.1 h.0 h.1.0))
one_first_pair n Holds (Some x) (Some y) h k = ap (λ (z : ℕ × ℕ). Some z) (same_pair n Holds x y h k)

-- ---- one, or none

-- a first number of which something does not hold, or none
pub first_or_none : (n : ℕ) (Holds : ℕ → Type 0) → ((i : ℕ) → Dec (Holds i)) → IsFirst n Holds None ⊎ ((i : ℕ) × IsFirst n Holds (Some i))
first_or_none zero Holds decided = inl (λ i less. absurd (omega arith))
first_or_none (suc n) Holds decided = elim (first_or_none n Holds decided) [
  | inr first ↦ inr (first.0, (let less = first.1.0 in omega arith, first.1.1, first.1.2))
  | inl all ↦ elim (decided n) [
    | yes last ↦ inl (λ i less. below_more Holds n all last i (omega arith))
    | no never ↦ inr (n, (omega arith, never, all))
  ]
]

-- whether something holds of all numbers
all_or_not : (n : ℕ) (Holds : ℕ → Type 0) → ((i : ℕ) → Dec (Holds i)) → Dec (IsFirst n Holds None)
all_or_not n Holds decided = elim (first_or_none n Holds decided) [
  | inl all ↦ yes all
  | inr first ↦ no (λ all. first.1.1 (all first.0 first.1.0))
]

-- the same of pairs: the first number that does not hold with all, and the first one with which it does not
pub first_pair_or_none : (n : ℕ) (Holds : ℕ → ℕ → Type 0) → ((p q : ℕ) → Dec (Holds p q)) → IsFirstPair n Holds None ⊎ ((pair : ℕ × ℕ) × IsFirstPair n Holds (Some pair))
first_pair_or_none n Holds decided = elim (first_or_none n (λ p. IsFirst n (Holds p) None) (λ p. all_or_not n (Holds p) (decided p))) [
  | inl all ↦ inl (λ p q less_p less_q. all p less_p q less_q)
  | inr row ↦ elim (first_or_none n (Holds row.0) (decided row.0)) [
    | inl all ↦ absurd (row.1.1 all)
    | inr first ↦ inr ((row.0, first.0), (row.1.0, first.1, λ p q before less. row.1.2 p before q less))
  ]
]

-- ---- none

-- what follows where there is none
pub none_given : {A P : Type 0} (o : Option A) → ((x : A) → o ≡ Some x → ⊥) → IfNone o P → P
none_given None not given = given
none_given (Some x) not given = absurd (not x refl)
