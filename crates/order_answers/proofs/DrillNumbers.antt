-- The numbers of drills, by their words.
use Rattle.std.proofs.Common.{◌≡◌, inl, inr, ℕ, zero, suc, ◌+◌, ◌<◌, ◌≤◌, Bool, true, false, List, refl, sym, ap, ◌∙◌, arith, Some, None, if◌then◌else◌}
use Rattle.std.specs.Prelude.{decimal}
use Rattle.std.specs.List.{range_with_len}
use Rattle.std.specs.Str.{bytes_eq}
use Rattle.std.proofs.lemmas.Bool.{cases_lt, false_from_ne_true}
use Rattle.std.proofs.lemmas.Fmt.{decimal_injective}
use Rattle.std.proofs.lemmas.Slice.Eq.{bytes_eq-Decides}
use Rattle.drill.specs.Laws.{IsDrill}
use Rattle.net_core.specs.Limits.{max_intervals}
use Rattle.named.specs.Texts.{named_of}
use Rattle.order_answers.specs.Drill.{drill_number}

-- a number of a range is found by its text
found : (a k n : ℕ) → a ≤ n → n < a + k → a + k < 10000 → named_of decimal (range_with_len a k) (decimal n) ≡ Some n
found a zero n low high few = absurd (omega (arith, low, high))
found a (suc k) n low high few = elim (cases_lt a n) [
  | inl less ↦
      let other : bytes_eq (decimal a) (decimal n) ≡ false = false_from_ne_true (bytes_eq (decimal a) (decimal n)) (λ e. let same = decimal_injective a n (omega (arith, few)) (omega (arith, high, few)) ((bytes_eq-Decides (decimal a) (decimal n)).0 e) in omega (arith, less, same)) in
      ap (λ (b : Bool). if b then Some a else named_of decimal (range_with_len (a + 1) k) (decimal n)) other ∙ found (a + 1) k n (omega (arith, less)) (omega (arith, high)) (omega (arith, few))
  | inr not ↦
      let same : a ≡ n = omega (arith, low, not) in
      let this : bytes_eq (decimal a) (decimal n) ≡ true = (bytes_eq-Decides (decimal a) (decimal n)).1 (ap decimal same) in
      ap (λ (b : Bool). if b then Some a else named_of decimal (range_with_len (a + 1) k) (decimal n)) this ∙ ap (λ (m : ℕ). Some m) same
]

-- a text that is that of no number of a range finds none
none_found : (a k : ℕ) (word : List ℕ) → ((n : ℕ) → a ≤ n → n < a + k → word ≡ decimal n → ⊥) → named_of decimal (range_with_len a k) word ≡ None
none_found a zero word none = refl
none_found a (suc k) word none =
    let other : bytes_eq (decimal a) word ≡ false = false_from_ne_true (bytes_eq (decimal a) word) (λ e. none a (omega arith) (omega arith) (sym ((bytes_eq-Decides (decimal a) word).0 e))) in
    ap (λ (b : Bool). if b then Some a else named_of decimal (range_with_len (a + 1) k) word) other ∙ none_found (a + 1) k word (λ n low high. none n (omega (arith, low)) (omega (arith, high)))

-- the number of a drill is found by its text
pub drill_found : (n : ℕ) (word : List ℕ) → IsDrill n → word ≡ decimal n → drill_number word ≡ Some n
unfolding drill_number
drill_found n word drill is = ap (named_of decimal (range_with_len 1 max_intervals)) is ∙ found 1 max_intervals n drill.0 (omega (arith, drill.1)) (omega arith)

-- a word that is the text of the number of no drill finds none
pub no_drill_found : (word : List ℕ) → ((n : ℕ) → IsDrill n → word ≡ decimal n → ⊥) → drill_number word ≡ None
unfolding drill_number
no_drill_found word none = none_found 1 max_intervals word (λ n low high. none n (low, omega (arith, high)))

-- a number that is found in a range is of it
found_within : (a k : ℕ) (word : List ℕ) (n : ℕ) → named_of decimal (range_with_len a k) word ≡ Some n → (a ≤ n) × (n < a + k)
found_within a zero word n is = absurd cc
found_within a (suc k) word n is = elim (bytes_eq (decimal a) word) as (λ b. (if b then Some a else named_of decimal (range_with_len (a + 1) k) word) ≡ Some n → (a ≤ n) × (n < a + suc k)) [
  | true ↦ λ here. let same : a ≡ n = cc in (omega arith, omega arith)
  | false ↦ λ later. let rest = found_within (a + 1) k word n later in (let low = rest.0 in omega arith, let high = rest.1 in omega arith)
] is

-- the number of a drill that is found is one that drills have
pub drill_in_range : (word : List ℕ) (n : ℕ) → drill_number word ≡ Some n → IsDrill n
unfolding drill_number
drill_in_range word n is = let range = found_within 1 max_intervals word n is in (range.0, let high = range.1 in omega arith)
