-- Ranks that are raised by the bits of a word, one after another.
use Rattle.std.proofs.Common.{◌≡◌, ◌≢◌, ℕ, ◌+◌, ◌-◌, ◌*◌, ◌/◌, ◌%◌, ◌^◌, ◌<◌, ◌≤◌, max, List, length, get_or, set, refl, sym, ap, subst, ◌∙◌, arith, inl, inr, get_or-set_other, get_or-set_same, bit_and, lit<, one-mul}
use Rattle.std.specs.Int.{bit_at, bit_not, w64}
use Rattle.std.specs.Int.Bits.{and_self}
use Rattle.std.proofs.lemmas.Bool.{cases_lt, cases_eq}
use Rattle.std.proofs.lemmas.Nat.{and-not, and_block, and_comm, and_le_l, and_le_r, mod_below, one_shl, pow_pos, shr_split}
use Rattle.std.proofs.lemmas.Nat.Bits.{and_pow, bit_at_cat_low, same_from_bits_below, bit_at-zero, bit_at-trailing_zeros, bit_at_above, bit_at_clear_same, bit_at_clear_other}
use Rattle.std.proofs.lemmas.List.{get_or_past}
use lib.Count.{count_trailing_zeros}
use Rattle.order_closure.specs.Bits.{bit_of}
use Rattle.timeline.specs.Ranking.{raised}

-- the lowest bit of a word that is not 0 is set
pub lowest : (word : ℕ) → (word ≡ 0 → ⊥) → word < 2 ^ 64 → (count_trailing_zeros 64 word < 64) × (bit_at word (count_trailing_zeros 64 word) ≡ 1)
lowest word some small = let h = bit_at-trailing_zeros w64 word (omega arith) small in (h.0, h.1)

-- a word without its bit k
abbrev pub cleared : ℕ → ℕ → ℕ
cleared word k = bit_and word (bit_not w64 (1 * 2 ^ k % 2 ^ 64))

-- that is the word less the bit
cleared_is : (word k : ℕ) → word < 2 ^ 64 → k < 64 → bit_at word k ≡ 1 → cleared word k + 2 ^ k ≡ word
cleared_is word k small lk is =
    let mask : 1 * 2 ^ k % 2 ^ 64 ≡ 2 ^ k = one_shl k 64 lk in
    let both : bit_and (bit_not w64 (1 * 2 ^ k % 2 ^ 64)) word + bit_and (1 * 2 ^ k % 2 ^ 64) word ≡ word = and-not 64 (1 * 2 ^ k % 2 ^ 64) word (mod_below (1 * 2 ^ k) (2 ^ 64) (lit< tt)) small in
    let turned : cleared word k ≡ bit_and (bit_not w64 (1 * 2 ^ k % 2 ^ 64)) word = and_comm word (bit_not w64 (1 * 2 ^ k % 2 ^ 64)) in
    let bit : bit_and (1 * 2 ^ k % 2 ^ 64) word ≡ 2 ^ k = ap (λ m. bit_and m word) mask ∙ and_comm (2 ^ k) word ∙ and_pow word k ∙ ap (λ b. b * 2 ^ k) is ∙ one-mul (2 ^ k) in
    omega (arith, both, turned, bit)

-- where k is the lowest bit that is set, the word's lower bits are 0
low_zero : (word k : ℕ) → ((i : ℕ) → i < k → bit_at word i ≡ 0) → word % 2 ^ k ≡ 0
low_zero word k clear = same_from_bits_below k (word % 2 ^ k) 0 (mod_below word (2 ^ k) (pow_pos k)) (pow_pos k)
    (λ i lt. sym (bit_at_cat_low (word / 2 ^ k) k (word % 2 ^ k) i lt) ∙ ap (λ m. bit_at m i) (shr_split word k) ∙ clear i lt ∙ sym (bit_at-zero i))

-- an odd number and the number below it
and_odd : (half : ℕ) → bit_and (half * 2 + 1) (half * 2) ≡ half * 2
and_odd half =
    let even : half * 2 ≡ half * 2 + 0 = omega arith in
    let shared : bit_and half half * 2 + bit_and 1 0 ≡ half * 2 = omega (arith, and_self half, and_le_r 1 0) in
    (λ i. bit_and (half * 2 + 1) (even i)) ∙ and_block 1 half half 1 0 (lit< tt) (lit< tt) ∙ shared

-- a word and the number below it share what the lowest bit leaves
lowest_is : (word k : ℕ) → ((i : ℕ) → i < k → bit_at word i ≡ 0) → bit_at word k ≡ 1 → bit_and word (word - 1) + 2 ^ k ≡ word
lowest_is word k clear is =
    let high = word / 2 ^ k in
    let half = high / 2 in
    let top = 2 ^ k in
    let pos : 0 < top = pow_pos k in
    let odd : high ≡ half * 2 + 1 = omega arith in
    let whole : high * top ≡ word = omega (arith, shr_split word k, low_zero word k clear) in
    let parts : high * top ≡ half * 2 * top + top = ap (λ m. m * top) odd ∙ omega arith in
    let first : word ≡ high * top + 0 = omega arith in
    let second : word - 1 ≡ half * 2 * top + (top - 1) = omega arith in
    let both : bit_and word (word - 1) ≡ bit_and high (half * 2) * top + bit_and 0 (top - 1) = (λ i. bit_and (first i) (second i)) ∙ and_block k high (half * 2) 0 (top - 1) pos (omega arith) in
    let shared : bit_and high (half * 2) * top ≡ half * 2 * top = ap (λ m. m * top) (ap (λ m. bit_and m (half * 2)) odd ∙ and_odd half) in
    omega (arith, both, shared, and_le_l 0 (top - 1), parts, whole)

-- a word and the number below it share the word without its lowest bit
pub lowest_off : (word : ℕ) → (word ≡ 0 → ⊥) → word < 2 ^ 64 → bit_and word (word - 1) ≡ cleared word (count_trailing_zeros 64 word)
lowest_off word some small =
    let h = bit_at-trailing_zeros w64 word (omega arith) small in
    let k = count_trailing_zeros 64 word in
    omega (arith, cleared_is word k small h.0 h.1, lowest_is word k h.2 h.1)

-- that bit is clear
cleared_same : (word k : ℕ) → k < 64 → bit_at (cleared word k) k ≡ 0
cleared_same word k lk = bit_at_clear_same w64 word k lk

-- the others are as they were
cleared_other : (word k j : ℕ) → word < 2 ^ 64 → k < 64 → j ≢ k → bit_at (cleared word k) j ≡ bit_at word j
cleared_other word k j small lk differ =
    let less : cleared word k ≤ word = and_le_l word _ in
    elim (cases_lt j 64) [
      | inl lj ↦ bit_at_clear_other w64 word k lk j lj differ
      | inr past ↦ bit_at_above (cleared word k) 64 j (omega arith) past ∙ sym (bit_at_above word 64 j small past)
    ]

-- a bit that is set is cleared: the word gets less
pub cleared_less : (word k : ℕ) → k < 64 → bit_at word k ≡ 1 → cleared word k < word
cleared_less word k lk is =
    let less : cleared word k ≤ word = and_le_l word _ in
    elim (cases_eq (cleared word k) word) [
      | inl same ↦ absurd (omega (arith, ap (λ m. bit_at m k) same, cleared_same word k lk))
      | inr differ ↦ omega arith
    ]

module _ (word k : ℕ) (small : word < 2 ^ 64) (lk : k < 64) (is : bit_at word k ≡ 1) where
  -- a bit that is left was set
  pub still_set : (j : ℕ) → bit_at (cleared word k) j ≡ 1 → bit_at word j ≡ 1
  still_set j e = elim (cases_eq j k) [
    | inl same ↦ absurd (omega (arith, ap (λ m. bit_at (cleared word k) m) same, cleared_same word k lk))
    | inr differ ↦ sym (cleared_other word k j small lk differ) ∙ e
  ]

  module _ (first least : ℕ) (t : List ℕ) (within : first + k < length t) where
    -- the ranks after the bit
    abbrev after : List ℕ
    after = set t (first + k) (max (get_or t (first + k) 0) least)

    -- what is left to raise makes what was to be made
    pub raised_bit : (j : ℕ) → raised (bit_at (cleared word k) j) least (get_or after (first + j) 0) ≡ raised (bit_at word j) least (get_or t (first + j) 0)
    raised_bit j = elim (cases_eq k j) [
      | inl same ↦
          let P : ℕ → Type 0 = λ i. raised (bit_at (cleared word k) i) least (get_or after (first + i) 0) ≡ raised (bit_at word i) least (get_or t (first + i) 0) in
          subst P same (ap (λ b. raised b least (get_or after (first + k) 0)) (cleared_same word k lk) ∙ rw get_or-set_same (sym (ap (λ b. raised b least (get_or t (first + k) 0)) is)))
      | inr differ ↦
          let other : j ≢ k = λ e. differ (sym e) in
          let place : first + j ≢ first + k = λ e. differ (omega arith) in
          ap (λ b. raised b least (get_or after (first + j) 0)) (cleared_other word k j small lk other) ∙ ap (raised (bit_at word j) least) (rw get_or-set_other refl)
    ]

    -- the ranks before the word stay
    pub before_word : (q : ℕ) → q < first → get_or after q 0 ≡ get_or t q 0
    before_word q lt = let differ : q ≢ first + k = omega arith in rw get_or-set_other refl

-- a bit of a row, by its word
bit_in_word : (row : List ℕ) (k j : ℕ) → j < 64 → bit_of row (64 * k + j) ≡ bit_at (get_or row k 0) j
bit_in_word row k j lt =
    let place : (64 * k + j) / 64 ≡ k = omega arith in
    let bit : (64 * k + j) % 64 ≡ j = omega arith in
    (λ i. bit_at (get_or row (place i) 0) (bit i))

-- a bit that is set in a word is set in the row
pub set_in_row : (row : List ℕ) (k j : ℕ) → get_or row k 0 < 2 ^ 64 → bit_at (get_or row k 0) j ≡ 1 → bit_of row (64 * k + j) ≡ 1
set_in_row row k j small is = elim (cases_lt j 64) [
  | inl lt ↦ bit_in_word row k j lt ∙ is
  | inr past ↦ absurd (omega (arith, bit_at_above (get_or row k 0) 64 j small past))
]

-- past the words no bit is set
past_row : (row : List ℕ) (q : ℕ) → 64 * length row ≤ q → bit_of row q ≡ 0
past_row row q le = ap (λ m. bit_at m (q % 64)) (get_or_past row (q / 64) 0 (omega arith)) ∙ bit_at-zero (q % 64)

module _ (row : List ℕ) (k least : ℕ) (first now : ℕ → ℕ)
    (done : (q : ℕ) → q < 64 * k → now q ≡ raised (bit_of row q) least (first q)) (others : (q : ℕ) → 64 * k ≤ q → now q ≡ first q) where
  module _ (new : ℕ → ℕ) (small : get_or row k 0 < 2 ^ 64) (raises : (j : ℕ) → new (64 * k + j) ≡ raised (bit_at (get_or row k 0) j) least (now (64 * k + j)))
      (keeps : (q : ℕ) → q < 64 * k → new q ≡ now q) where
    -- the ranks of one word more are raised
    pub done_more : (q : ℕ) → q < 64 * (k + 1) → new q ≡ raised (bit_of row q) least (first q)
    done_more q lq = elim (cases_lt q (64 * k)) [
      | inl lt ↦ keeps q lt ∙ done q lt
      | inr ge ↦
          let j = q - 64 * k in
          let lj : j < 64 = omega arith in
          let at : 64 * k + j ≡ q = omega arith in
          subst (λ (p : ℕ). new p ≡ raised (bit_of row p) least (first p)) at
          (raises j ∙ ap (λ b. raised b least (now (64 * k + j))) (sym (bit_in_word row k j lj)) ∙ ap (raised (bit_of row (64 * k + j)) least) (others (64 * k + j) (omega arith)))
    ]

    -- the ranks after it are as they were
    pub others_more : (q : ℕ) → 64 * (k + 1) ≤ q → new q ≡ first q
    others_more q le =
        let j = q - 64 * k in
        let at : 64 * k + j ≡ q = omega arith in
        let clear : bit_at (get_or row k 0) j ≡ 0 = bit_at_above (get_or row k 0) 64 j small (omega arith) in
        subst (λ (p : ℕ). new p ≡ first p) at (raises j ∙ ap (λ b. raised b least (now (64 * k + j))) clear ∙ others (64 * k + j) (omega arith))

  -- after all words each rank is raised by its bit
  pub all_done : length row ≤ k → (q : ℕ) → now q ≡ raised (bit_of row q) least (first q)
  all_done end q = elim (cases_lt q (64 * k)) [
    | inl lt ↦ done q lt
    | inr ge ↦ others q ge ∙ ap (λ b. raised b least (first q)) (sym (past_row row q (omega arith)))
  ]
