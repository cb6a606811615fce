-- Numbers below a bound at which a test holds.
use Rattle.std.proofs.Common.{◌≡◌, ℕ, zero, suc, ◌+◌, ◌<◌, ◌≤◌, Bool, true, false, cond, add-one, refl, sym, ap, ◌∙◌, arith, inl, inr}
use Rattle.std.proofs.lemmas.Bool.{cases_lt, cases_Bool}
use Rattle.order_closure.specs.Counting.{count}

-- where the test holds, there is one more
count_true : (p : ℕ → Bool) (n : ℕ) → p n ≡ true → count p (suc n) ≡ 1 + count p n
unfolding count
count_true p n h = ap (λ b. cond b (1 + count p n) (count p n)) h

-- where it does not, there are as many
count_false : (p : ℕ → Bool) (n : ℕ) → p n ≡ false → count p (suc n) ≡ count p n
unfolding count
count_false p n h = ap (λ b. cond b (1 + count p n) (count p n)) h

-- both again, as a loop counts
pub count_yes : (p : ℕ → Bool) (n : ℕ) → p n ≡ true → count p (n + 1) ≡ count p n + 1
count_yes p n h = rw add-one (omega (arith, count_true p n h))

pub count_not : (p : ℕ → Bool) (n : ℕ) → p n ≡ false → count p (n + 1) ≡ count p n
count_not p n h = rw add-one (count_false p n h)

-- below 0 there are none
pub count_none : (p : ℕ → Bool) → count p 0 ≡ 0
unfolding count
count_none p = refl

-- no more than there are numbers
pub count-le : (p : ℕ → Bool) (n : ℕ) → count p n ≤ n
unfolding count
count-le p zero = omega arith
count-le p (suc n) = elim (cases_Bool (p n)) [
  | inl h ↦ omega (arith, count-le p n, count_true p n h)
  | inr h ↦ omega (arith, count-le p n, count_false p n h)
]

-- a test that holds wherever another one does, holds at no fewer
pub count-mono : (p q : ℕ → Bool) (n : ℕ) → ((k : ℕ) → k < n → p k ≡ true → q k ≡ true) → count p n ≤ count q n
unfolding count
count-mono p q zero h = omega arith
count-mono p q (suc n) h =
    let rest : count p n ≤ count q n = count-mono p q n (λ k lt. h k (omega arith)) in
    elim (cases_Bool (p n)) [
      | inl t ↦ omega (arith, count_true p n t, count_true q n (h n (omega arith) t), rest)
      | inr f ↦ elim (cases_Bool (q n)) [
        | inl t ↦ omega (arith, count_false p n f, count_true q n t, rest)
        | inr g ↦ omega (arith, count_false p n f, count_false q n g, rest)
      ]
    ]

-- and at more, where it holds at one number more
pub count-more : (p q : ℕ → Bool) (n m : ℕ) → m < n → p m ≡ false → q m ≡ true → ((k : ℕ) → k < n → p k ≡ true → q k ≡ true) → count p n < count q n
count-more p q zero m lt pm qm h = absurd (omega arith)
count-more p q (suc n) m lt pm qm h = elim (cases_lt m n) [
  | inl below ↦
      let rest : count p n < count q n = count-more p q n m below pm qm (λ k lt. h k (omega arith)) in
      elim (cases_Bool (p n)) [
        | inl t ↦ omega (arith, count_true p n t, count_true q n (h n (omega arith) t), rest)
        | inr f ↦ elim (cases_Bool (q n)) [
          | inl t ↦ omega (arith, count_false p n f, count_true q n t, rest)
          | inr g ↦ omega (arith, count_false p n f, count_false q n g, rest)
        ]
      ]
  | inr at ↦
      let e : m ≡ n = omega arith in
      omega (arith, count_false p n (ap p (sym e) ∙ pm), count_true q n (ap q (sym e) ∙ qm), count-mono p q n (λ k lt. h k (omega arith)))
]
