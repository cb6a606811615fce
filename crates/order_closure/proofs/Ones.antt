-- How many bits of words are set, as a count of the numbers at which a test holds.
use Rattle.std.proofs.Common.{◌≡◌, ◌↔◌, ℕ, zero, suc, ◌+◌, ◌-◌, ◌*◌, ◌/◌, ◌%◌, ◌^◌, ◌<◌, Bool, true, false, List, [], ◌∷◌, length, get_or, refl, subst, sym, ap, ◌∙◌, arith, inl, inr}
use Rattle.std.specs.Prelude.{◌==◌, count_ones}
use Rattle.std.specs.Int.{bit_at}
use Rattle.std.specs.List.{sum_by}
use Rattle.std.proofs.lemmas.Bool.{both_ways, cases_Bool, cases_eq, eq-eqb, ne_eqb}
use Rattle.std.proofs.lemmas.List.Sums.{sum_by-cons}
use Rattle.std.proofs.lemmas.Nat.{ones_cat, ones_le_self, zero_from_ones, shr_split, mod_below, pow_pos, shr_below}
use Rattle.std.proofs.lemmas.Nat.Bits.{bit_at-lt, bit_at_cat_low}
use Rattle.order_closure.specs.Bits.{AreBitsOf, bit_of}
use Rattle.order_closure.specs.Counting.{count}
use Rattle.order_closure.proofs.Counting.{count_none, count_yes, count_not, count-mono}

-- tests that agree below n hold at as many numbers
pub count-same : (p q : ℕ → Bool) (n : ℕ) → ((k : ℕ) → k < n → p k ≡ q k) → count p n ≡ count q n
count-same p q n same = omega (arith, count-mono p q n (λ k lt h. sym (same k lt) ∙ h), count-mono q p n (λ k lt h. same k lt ∙ h))

-- a test that holds nowhere
count_nowhere : (n : ℕ) → count (λ _. false) n ≡ 0
count_nowhere zero = count_none (λ _. false)
count_nowhere (suc n) = ap (count (λ _. false)) (omega arith) ∙ count_not (λ _. false) n refl ∙ count_nowhere n

-- a count in two parts
pub count-add : (p : ℕ → Bool) (a b : ℕ) → count p (a + b) ≡ count p a + count (λ k. p (a + k)) b
count-add p a zero =
    let same : count p (a + zero) ≡ count p a = ap (count p) (omega arith) in
    omega (arith, same, count_none (λ k. p (a + k)))
count-add p a (suc b) =
    let more : count p (a + suc b) ≡ count p (a + b + 1) = ap (count p) (omega arith) in
    let same : count (λ k. p (a + k)) (suc b) ≡ count (λ k. p (a + k)) (b + 1) = ap (count (λ k. p (a + k))) (omega arith) in
    elim (cases_Bool (p (a + b))) [
      | inl holds ↦ omega (arith, more, same, count-add p a b, count_yes p (a + b) holds, count_yes (λ k. p (a + k)) b holds)
      | inr fails ↦ omega (arith, more, same, count-add p a b, count_not p (a + b) fails, count_not (λ k. p (a + k)) b fails)
    ]

-- the ones of a number of one bit
ones_of_bit : (a : ℕ) → a < 2 → count_ones a ≡ a
ones_of_bit zero lt = omega (arith, ones_le_self 0)
ones_of_bit (suc zero) lt =
    let none : count_ones 1 ≡ 0 → ⊥ = λ e. omega (arith, zero_from_ones 1 e) in
    omega (arith, ones_le_self 1)
ones_of_bit (suc (suc a)) lt = absurd (omega arith)

-- one bit more of a number
bit_counted : (word k : ℕ) → count (λ i. bit_at word i == 1) (k + 1) ≡ count (λ i. bit_at word i == 1) k + bit_at word k
bit_counted word k = elim (cases_eq (bit_at word k) 1) [
  | inl e ↦ omega (arith, e, count_yes (λ i. bit_at word i == 1) k (eq-eqb (bit_at word k) 1 e))
  | inr ne ↦ omega (arith, bit_at-lt word k, ne, count_not (λ i. bit_at word i == 1) k (ne_eqb (bit_at word k) 1 ne))
]

-- the ones of a number of k bits
ones_of_word : (k word : ℕ) → word < 2 ^ k → count_ones word ≡ count (λ i. bit_at word i == 1) k
ones_of_word zero word lt = omega (arith, ones_le_self word, count_none (λ i. bit_at word i == 1))
ones_of_word (suc k) word lt =
    let high = word / 2 ^ k in
    let low = word % 2 ^ k in
    let split : high * 2 ^ k + low ≡ word = shr_split word k in
    let low_small : low < 2 ^ k = mod_below word (2 ^ k) (pow_pos k) in
    let high_small : high < 2 = shr_below word 1 k (subst (λ (m : ℕ). word < 2 ^ m) (omega arith) lt) in
    let ones : count_ones word ≡ count_ones high + count_ones low = ap count_ones (sym split) ∙ ones_cat k high low low_small in
    let same : count (λ i. bit_at word i == 1) k ≡ count (λ i. bit_at low i == 1) k =
    count-same (λ i. bit_at word i == 1) (λ i. bit_at low i == 1) k (λ i lt. ap (λ m. m == 1) (ap (λ m. bit_at m i) (sym split) ∙ bit_at_cat_low high k low i lt)) in
    let top : bit_at word k ≡ high = omega arith in
    let more : count (λ i. bit_at word i == 1) (suc k) ≡ count (λ i. bit_at word i == 1) (k + 1) = ap (count (λ i. bit_at word i == 1)) (omega arith) in
    omega (arith, ones, same, top, more, bit_counted word k, ones_of_bit high high_small, ones_of_word k low low_small)

-- the bits of words after the first
bit_past : (word : ℕ) (words : List ℕ) (j : ℕ) → bit_of (word ∷ words) (64 + j) ≡ bit_of words j
bit_past word words j =
    let place : (64 + j) / 64 ≡ suc (j / 64) = omega arith in
    let bit : (64 + j) % 64 ≡ j % 64 = omega arith in
    (λ i. bit_at (get_or (word ∷ words) (place i) 0) (bit i))

-- and those of the first
bit_first : (word : ℕ) (words : List ℕ) (j : ℕ) → j < 64 → bit_of (word ∷ words) j ≡ bit_at word j
bit_first word words j lt =
    let place : j / 64 ≡ 0 = omega arith in
    let bit : j % 64 ≡ j = omega arith in
    (λ i. bit_at (get_or (word ∷ words) (place i) 0) (bit i))

-- the ones of words are the bits that are set
pub ones_of_words : (words : List ℕ) → ((k : ℕ) → get_or words k 0 < 2 ^ 64) → sum_by count_ones words ≡ count (λ j. bit_of words j == 1) (64 * length words)
ones_of_words [] small = sym (count_none (λ j. bit_of [] j == 1))
ones_of_words (word ∷ words) small =
    let set : ℕ → Bool = λ j. bit_of (word ∷ words) j == 1 in
    let first : count set 64 ≡ count_ones word = count-same set (λ i. bit_at word i == 1) 64 (λ j lt. ap (λ m. m == 1) (bit_first word words j lt)) ∙ sym (ones_of_word 64 word (small 0)) in
    let rest : count (λ j. set (64 + j)) (64 * length words) ≡ sum_by count_ones words =
    count-same (λ j. set (64 + j)) (λ j. bit_of words j == 1) (64 * length words) (λ j lt. ap (λ m. m == 1) (bit_past word words j)) ∙ sym (ones_of_words words (λ k. small (suc k))) in
    let whole : count set (64 * length (word ∷ words)) ≡ count set (64 + 64 * length words) = ap (count set) (omega arith) in
    sum_by-cons count_ones word words ∙ omega (arith, count-add set 64 (64 * length words), first, rest, whole)

-- the ones of words for n bits count the numbers below n at which the test of their bits holds
pub ones_counted : (n : ℕ) (P : ℕ → Type 0) (test : ℕ → Bool) (words : List ℕ) → ((k : ℕ) → get_or words k 0 < 2 ^ 64)
    → ((j : ℕ) → j < n → P j ↔ (test j ≡ true)) → AreBitsOf n P words → sum_by count_ones words ≡ count test n
ones_counted n P test words small same bits =
    let set : ℕ → Bool = λ j. bit_of words j == 1 in
    let more = 64 * length words - n in
    let all : 64 * length words ≡ n + more = let long = bits.long in omega arith in
    let below : count set n ≡ count test n = count-same set test n (λ j lt. elim (cases_Bool (test j)) [
      | inl holds ↦ eq-eqb (bit_of words j) 1 ((bits.set j lt).1 ((same j lt).1 holds)) ∙ sym holds
      | inr fails ↦ ne_eqb (bit_of words j) 1 (λ e. both_ways (test j) fails ((same j lt).0 ((bits.set j lt).0 e))) ∙ sym fails
    ]) in
    let tail : count (λ k. set (n + k)) more ≡ 0 = count-same (λ k. set (n + k)) (λ _. false) more (λ k lt. ap (λ m. m == 1) (bits.tail (n + k) (omega arith))) ∙ count_nowhere more in
    ones_of_words words small ∙ ap (count set) all ∙ omega (arith, count-add set n more, below, tail)
