-- A word is the decimal of one number below 2 ^ 64, or of none.
use Rattle.std.proofs.Common.{◌≡◌, ℕ, ◌^◌, ◌<◌, true, ltb, ◌&&◌, List, Option, Some, None, refl, subst, arith}
use Rattle.std.specs.Prelude.{decimal}
use Rattle.std.specs.Str.{bytes_eq}
use Rattle.std.specs.Str.Parse.{digits_value}
use Rattle.std.proofs.lemmas.Bool.{ltb-true, lt-ltb, and_parts}
use Rattle.std.proofs.lemmas.Fmt.{decimal_is_IsNumeral}
use Rattle.std.proofs.lemmas.Option.{cond_some}
use Rattle.std.proofs.lemmas.Slice.Eq.{bytes_eq-Decides}
use Rattle.line_texts.specs.Words.{◌>>=◌, number}

-- where two steps give a value, each does
pub some_bind : {A B : Type 0} (o : Option A) (f : A → Option B) (y : B) → (o >>= f) ≡ Some y → (x : A) × (o ≡ Some x) × (f x ≡ Some y)
some_bind (Some x) f y e = (x, refl, e)
some_bind None f y e = absurd cc

-- a number that is read is what the word writes
pub number_found : (word : List ℕ) (n : ℕ) → number word ≡ Some n → (decimal n ≡ word) × (n < 2 ^ 64)
unfolding number
number_found word n e =
    let v = digits_value 10 word in
    let g = cond_some (ltb v (2 ^ 64) && bytes_eq (decimal v) word) v n e in
    let t = and_parts (ltb v (2 ^ 64)) (bytes_eq (decimal v) word) g.0 in
    let same : decimal v ≡ word = (bytes_eq-Decides (decimal v) word).0 t.1 in
    let small : v < 2 ^ 64 = ltb-true v (2 ^ 64) t.0 in
    subst (λ (m : ℕ). (decimal m ≡ word) × (m < 2 ^ 64)) g.1 (same, small)

-- a number that is written is read
pub number_again : (n : ℕ) → n < 2 ^ 64 → number (decimal n) ≡ Some n
unfolding number
number_again n small =
    let value = (decimal_is_IsNumeral n (omega arith)).1 in
    let same : bytes_eq (decimal n) (decimal n) ≡ true = (bytes_eq-Decides (decimal n) (decimal n)).1 refl in
    let lt : ltb n (2 ^ 64) ≡ true = lt-ltb n (2 ^ 64) small in
    rw (value, same, lt) refl

-- in a word that no number prints none is read
pub number_none : (word : List ℕ) → ((n : ℕ) → n < 2 ^ 64 → decimal n ≡ word → ⊥) → number word ≡ None
number_none word none =
    elim (number word) as (λ o. number word ≡ o → number word ≡ None) [
      | None ↦ λ e. e
      | Some n ↦ λ e. let f = number_found word n e in absurd (none n f.1 f.0)
    ] refl
