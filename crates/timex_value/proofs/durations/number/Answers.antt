use Rattle.std.proofs.Common.{◌≡◌, ℕ, ◌+◌, ◌-◌, ◌*◌, ◌^◌, ◌<◌, ◌≤◌, List, length, take, get_or, sym, ap, ◌∙◌, arith}
use Rattle.std.proofs.lemmas.List.{take_all}
use Rattle.std.proofs.lemmas.Bool.Decides.{nat_tests}
use Rattle.std.proofs.lemmas.Int.Digits.{digits_value-lt, digits_value_more}
use Rattle.std.proofs.lemmas.Str.Parse.{digit_at, digits_value-take-le}
use Rattle.std.proofs.Math.Nat.{pow-le-pow_right}
use Rattle.std.specs.Char.{digit_value}
use Rattle.std.specs.Str.Parse.{AllDigits, digits_value}
use Rattle.timex_value.proofs.durations.number.Goals as goal

-- nine digits write less than a thousand millions
below : (digits : List ℕ) → AllDigits 10 digits → length digits ≤ 9 → digits_value 10 digits < 1_000_000_000
below digits h few =
    let top : 10 ^ length digits ≤ 10 ^ 9 = pow-le-pow_right {n = 10} (omega arith) {i = length digits} {j = 9} few in
    omega (arith, digits_value-lt 10 digits h)

-- one more digit is read
next : (digits : List ℕ) (i : ℕ) → AllDigits 10 digits → i < length digits
    → digits_value 10 (take (i + 1) digits) ≡ digits_value 10 (take i digits) * 10 + (get_or digits i 0 - 48)
next digits i h lt =
    let range = digit_at digits i h lt in
    let value : digit_value (get_or digits i 0) ≡ get_or digits i 0 - 48 = grind (arith, nat_tests) in
    digits_value_more 10 digits i lt ∙ ap (λ d. digits_value 10 (take i digits) * 10 + d) value

-- and no sum on the way is too large
next_below : (digits : List ℕ) (i : ℕ) → AllDigits 10 digits → length digits ≤ 9 → i < length digits
    → digits_value 10 (take i digits) * 10 + (get_or digits i 0 - 48) < 1_000_000_000
next_below digits i h few lt =
    omega (arith, below digits h few, sym (next digits i h lt), digits_value-take-le 10 digits (i + 1) (omega arith))

pub overflow_mul-n : goal.overflow_mul-n
overflow_mul-n c = omega (arith, c.loop-b.invariant, next_below c.args.digits.now c.loop-b.b-index c.requires.digits c.requires.few (omega arith))

pub overflow_add-n : goal.overflow_add-n
overflow_add-n c = omega (arith, c.from.ensures, c.loop-b.invariant, next_below c.args.digits.now c.loop-b.b-index c.requires.digits c.requires.few (omega arith))

pub loop-b-preserved : goal.loop-b-preserved
loop-b-preserved c = rw c.from.ensures (ap (λ n. n * 10 + (get_or c.args.digits.now c.loop-b.b-index 0 - 48)) c.loop-b.invariant ∙ sym (next c.args.digits.now c.loop-b.b-index c.requires.digits (omega arith)))

pub returns : goal.returns
returns c = c.loop-b.invariant ∙ ap (λ xs. digits_value 10 xs) (take_all c.loop-b.b-index c.args.digits.now (omega arith))

pub overflow_sub-b : goal.overflow_sub-b
overflow_sub-b c = let range = digit_at c.args.digits.now c.loop-b.b-index c.requires.digits (omega arith) in omega arith
