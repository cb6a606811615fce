-- Digits without a leading zero are what the number that they write prints.
use Rattle.std.proofs.Common.{◌≡◌, ℕ, ◌+◌, ◌*◌, ◌-◌, ◌^◌, ◌<◌, ◌≤◌, suc, Bool, true, false, cond, eqb, ltb, not, ◌&&◌, ◌||◌, if◌then◌else◌, eq-eqb, List, [], ◌∷◌, length, get_or, take, drop, inl, inr, Option, Some, None, refl, sym, ap, subst, ◌∙◌, one-add, arith}
use Rattle.std.specs.Prelude.{decimal}
use Rattle.std.specs.List.{prefix_len}
use Rattle.std.specs.Char.{digit_value}
use Rattle.std.specs.Str.Parse.{AllDigits, digits_value, digits_value_after}
use Rattle.std.proofs.lemmas.Bool.{cases_lt, eqb-true, ltb-true, lt-ltb, and_parts, ne_eqb}
use Rattle.std.proofs.lemmas.Bool.Decides.{nat_tests}
use Rattle.std.proofs.lemmas.Fmt.{decimal_is_IsNumeral, decimal-digits_value, decimal_digit, decimal_nonempty, first_decimal}
use Rattle.std.proofs.lemmas.List.{take_all}
use Rattle.std.proofs.lemmas.Option.{cond_some}
use Rattle.std.proofs.lemmas.Str.Parse.{numerals_by_value, tells_digits}
use Rattle.line_texts.specs.Words.{◌>>=◌, is_not, number, digit_after, digits_to, after_one, after_byte, long_to}
use Rattle.line_texts.proofs.Numbers.{some_bind, number_again, number_none}

-- there is a first byte, and it is no zero, or stands alone
abbrev begins_well : List ℕ → Bool
begins_well [] = false
begins_well (b ∷ bytes) = not (eqb b 48) || eqb (length bytes) 0

-- the number below 2 ^ 64 that digits write after a number
unfoldable digits_after : ℕ → List ℕ → Option ℕ
digits_after n [] = Some n
digits_after n (b ∷ bytes) = digit_after n b >>= λ m. digits_after m bytes

-- digits after a number write no less
value_rises : (n : ℕ) (bytes : List ℕ) → n ≤ digits_value_after 10 n bytes
value_rises n [] = omega arith
value_rises n (b ∷ bytes) = omega (arith, value_rises (n * 10 + digit_value b) bytes)

-- a digit that is read is one, and its number is not too large
digit_found : (n b m : ℕ) → digit_after n b ≡ Some m → (digit_value b < 10) × (n * 10 + digit_value b ≡ m) × (m < 2 ^ 64)
unfolding digit_after
digit_found n b m e =
    let v = n * 10 + digit_value b in
    let g = cond_some (ltb (digit_value b) 10 && ltb v (2 ^ 64)) v m e in
    let t = and_parts (ltb (digit_value b) 10) (ltb v (2 ^ 64)) g.0 in
    (ltb-true (digit_value b) 10 t.0, g.1, subst (λ (k : ℕ). k < 2 ^ 64) g.1 (ltb-true v (2 ^ 64) t.1))

-- a digit is read where its number is not too large
digit_again : (n b : ℕ) → digit_value b < 10 → n * 10 + digit_value b < 2 ^ 64 → digit_after n b ≡ Some (n * 10 + digit_value b)
unfolding digit_after
digit_again n b digit small = rw (lt-ltb (digit_value b) 10 digit, lt-ltb (n * 10 + digit_value b) (2 ^ 64) small) refl

-- digits that are read are digits, and write the number
digits_found : (m : ℕ) (bytes : List ℕ) (n : ℕ) → m < 2 ^ 64 → digits_after m bytes ≡ Some n → AllDigits 10 bytes × (digits_value_after 10 m bytes ≡ n) × (n < 2 ^ 64)
unfolding digits_after
digits_found m [] n small e = let same : m ≡ n = cc in (tt, same, subst (λ (k : ℕ). k < 2 ^ 64) same small)
digits_found m (b ∷ bytes) n small e =
    let s = some_bind (digit_after m b) (λ k. digits_after k bytes) n e in
    let d = digit_found m b s.0 s.1 in
    let r = digits_found s.0 bytes n d.2 s.2 in
    ((d.0, r.0), ap (λ (k : ℕ). digits_value_after 10 k bytes) d.1 ∙ r.1, r.2)

-- digits are read where their number is not too large
digits_again : (m : ℕ) (bytes : List ℕ) → AllDigits 10 bytes → digits_value_after 10 m bytes < 2 ^ 64 → digits_after m bytes ≡ Some (digits_value_after 10 m bytes)
unfolding digits_after
digits_again m [] digits small = refl
digits_again m (b ∷ bytes) digits small =
    let next : m * 10 + digit_value b < 2 ^ 64 = omega (arith, value_rises (m * 10 + digit_value b) bytes) in
    rw (digit_again m b digits.0 next) (digits_again (m * 10 + digit_value b) bytes digits.1 small)

-- a word that begins well is of the number that its digits write
digits_are : (word : List ℕ) → 0 < length word → (get_or word 0 0 ≡ 48 → length word ≡ 1) → number word ≡ digits_after 0 word
digits_are word some zero =
    elim (digits_after 0 word) as (λ o. digits_after 0 word ≡ o → number word ≡ o) [
      | None ↦ λ e. number_none word (λ n small printed.
          let numeral = decimal_is_IsNumeral n (omega arith) in
          let digits : AllDigits 10 word = subst (AllDigits 10) printed numeral.0.1 in
          let value : digits_value 10 word ≡ n = ap (digits_value 10) (sym printed) ∙ numeral.1 in
          let read = digits_again 0 word digits (omega arith) in
          cc)
      | Some n ↦ λ e.
          let f = digits_found 0 word n (omega arith) e in
          let printed : decimal (digits_value 10 word) ≡ word = decimal-digits_value (numerals_by_value (AllDigits 10) tells_digits) word f.0 some zero (omega (arith, f.1, f.2)) in
          let same : decimal n ≡ word = ap decimal (sym f.1) ∙ printed in
          ap number (sym same) ∙ number_again n f.2
    ] refl

-- no number prints a zero before another byte
no_zero : (b : ℕ) (bytes : List ℕ) → b ≡ 48 → 0 < length bytes → number (b ∷ bytes) ≡ None
no_zero b bytes zero more = number_none (b ∷ bytes) (λ n small printed.
    let first : get_or (decimal n) 0 0 ≡ 48 = ap (λ (ds : List ℕ). get_or ds 0 0) printed ∙ zero in
    elim (cases_lt 0 n) [
      | inl h ↦ omega (arith, first_decimal n h (omega arith))
      | inr h ↦ omega (arith, ap length printed, ap length (decimal_digit n (omega arith)))
    ])

-- a word is of the number that its digits write, where it begins well
number_is : (word : List ℕ) → number word ≡ if begins_well word then digits_after 0 word else None
number_is [] = number_none [] (λ n small printed. omega (arith, ap length printed, decimal_nonempty n (omega arith)))
number_is (b ∷ bytes) =
    elim (eqb b 48) as (λ t. eqb b 48 ≡ t → number (b ∷ bytes) ≡ cond (not t || eqb (length bytes) 0) (digits_after 0 (b ∷ bytes)) None) [
      | false ↦ λ e. digits_are (b ∷ bytes) (omega arith) (λ zero. absurd (let yes_zero = eq-eqb b 48 zero in cc))
      | true ↦ λ e. elim (eqb (length bytes) 0) as (λ t. eqb (length bytes) 0 ≡ t → number (b ∷ bytes) ≡ cond t (digits_after 0 (b ∷ bytes)) None) [
        | true ↦ λ k. digits_are (b ∷ bytes) (omega arith) (λ zero. ap suc (eqb-true (length bytes) 0 k))
        | false ↦ λ k. no_zero b bytes (eqb-true b 48 e) (grind (arith, nat_tests, k))
      ] refl
    ] refl

-- ---- digits up to a byte

-- the digits up to a byte are those of the word up to it
up_to : (stop n : ℕ) (bytes : List ℕ) → digits_to stop n bytes ≡ (digits_after n (take (prefix_len (is_not stop) bytes) bytes) >>= λ m. after_one (drop (prefix_len (is_not stop) bytes) bytes) >>= λ rest. Some (m, rest))
unfolding digits_to digits_after
up_to stop n [] = refl
up_to stop n (b ∷ bytes) =
    let k = prefix_len (is_not stop) bytes in
    elim (eqb b stop) as (λ t. cond t (Some (n, bytes)) (digit_after n b >>= λ m. digits_to stop m bytes) ≡ (digits_after n (take (cond (not t) (1 + k) 0) (b ∷ bytes)) >>= λ m. after_one (drop (cond (not t) (1 + k) 0) (b ∷ bytes)) >>= λ rest. Some (m, rest))) [
      | true ↦ refl
      | false ↦ rw (one-add k) (elim (digit_after n b) as (λ o. (o >>= λ m. digits_to stop m bytes) ≡ ((o >>= λ m. digits_after m (take k bytes)) >>= λ m. after_one (drop k bytes) >>= λ rest. Some (m, rest))) [
        | None ↦ refl
        | Some m ↦ up_to stop m bytes
      ])
    ]

-- what begins well is read by its digits
by_digits : (stop : ℕ) (bytes : List ℕ) → begins_well (take (prefix_len (is_not stop) bytes) bytes) ≡ true → long_to stop bytes ≡ digits_to stop 0 bytes
unfolding long_to
by_digits stop bytes well = rw (number_is (take (prefix_len (is_not stop) bytes) bytes), well) (sym (up_to stop 0 bytes))

-- no byte before the one that ends a number is no number
empty_word : (stop b : ℕ) (bytes : List ℕ) → eqb b stop ≡ true → long_to stop (b ∷ bytes) ≡ None
unfolding long_to
empty_word stop b bytes e =
    let none : number [] ≡ None = number_is [] in
    rw (e, none) refl

-- a zero alone is zero
zero_alone : (b : ℕ) → eqb b 48 ≡ true → number (b ∷ []) ≡ Some 0
zero_alone b z = ap (λ (c : ℕ). number (c ∷ [])) (eqb-true b 48 z) ∙ ap number (sym (decimal_digit 0 (omega arith))) ∙ number_again 0 (omega arith)

-- a number, and what follows the byte that ends it
abbrev with_rest : ℕ → Option (List ℕ) → Option (ℕ × List ℕ)
with_rest n after = after >>= λ rest. Some (n, rest)

-- after a zero the number ends
zero_word : (stop b : ℕ) (bytes : List ℕ) → eqb b stop ≡ false → eqb b 48 ≡ true → long_to stop (b ∷ bytes) ≡ with_rest 0 (after_byte stop bytes)
unfolding long_to
zero_word stop b [] e z = rw (e, zero_alone b z) refl
zero_word stop b (c ∷ bytes) e z =
    let k = prefix_len (is_not stop) bytes in
    rw e (elim (eqb c stop) as (λ t. (number (take (1 + cond (not t) (1 + k) 0) (b ∷ c ∷ bytes)) >>= λ n. with_rest n (after_one (drop (1 + cond (not t) (1 + k) 0) (b ∷ c ∷ bytes)))) ≡ with_rest 0 (cond t (Some bytes) None)) [
      | true ↦ rw (zero_alone b z) refl
      | false ↦ let none : number (b ∷ c ∷ take k bytes) ≡ None = no_zero b (c ∷ take k bytes) (eqb-true b 48 z) (omega arith) in rw (one-add k, one-add (suc k), none) refl
    ])

-- the number up to a byte, by its first byte
abbrev begun_to : ℕ → List ℕ → Option (ℕ × List ℕ)
begun_to stop [] = digits_to stop 0 []
begun_to stop (b ∷ bytes) = if eqb b stop then None else if eqb b 48 then (with_rest 0 (after_byte stop bytes)) else digits_to stop 0 (b ∷ bytes)

-- the number up to a byte is read by its first byte
pub long_to_is : (stop : ℕ) (bytes : List ℕ) → long_to stop bytes ≡ begun_to stop bytes
unfolding long_to digits_to
long_to_is stop [] = let none : number [] ≡ None = number_is [] in rw none refl
long_to_is stop (b ∷ bytes) =
    elim (eqb b stop) as (λ t. eqb b stop ≡ t → long_to stop (b ∷ bytes) ≡ cond t None (cond (eqb b 48) (with_rest 0 (after_byte stop bytes)) (digits_to stop 0 (b ∷ bytes)))) [
      | true ↦ λ e. empty_word stop b bytes e
      | false ↦ λ e. elim (eqb b 48) as (λ t. eqb b 48 ≡ t → long_to stop (b ∷ bytes) ≡ cond t (with_rest 0 (after_byte stop bytes)) (digits_to stop 0 (b ∷ bytes))) [
        | true ↦ λ z. zero_word stop b bytes e z
        | false ↦ λ z. by_digits stop (b ∷ bytes) (rw (e, one-add (prefix_len (is_not stop) bytes), z) refl)
      ] refl
    ] refl

-- a zero, and what follows the byte after it
pub zero_read : (stop : ℕ) (bytes rest : List ℕ) → 1 ≤ length bytes → get_or bytes 0 0 ≡ 48 → (get_or bytes 0 0 ≡ stop → ⊥) → Some rest ≡ after_byte stop (take (length bytes - 1) (drop 1 bytes)) → Some (0, rest) ≡ long_to stop bytes
zero_read stop [] rest some zero apart e = absurd (omega arith)
zero_read stop (b ∷ bytes) rest some zero apart e =
    let other : eqb b stop ≡ false = ne_eqb b stop apart in
    let read : after_byte stop bytes ≡ Some rest = ap (after_byte stop) (sym (take_all (length (b ∷ bytes) - 1) bytes (omega arith))) ∙ sym e in
    sym (zero_word stop b bytes other (eq-eqb b 48 zero) ∙ ap (with_rest 0) read)
