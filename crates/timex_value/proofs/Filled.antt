-- It is decided whether a year and a shape have a valid filling: by a search of the numbers below the limits of a calendar.
use Rattle.std.proofs.Common.{ℕ, suc, ◌<◌, ◌≤◌, List, [], ◌∷◌, inl, inr, arith}
use Rattle.std.specs.Int.{IsInRange}
use Rattle.std.specs.Str.{byte}
use Rattle.named.proofs.Deciding.{all_three, either, implied, in_range, some_number}
use mathlib.Core.Logic.Dec
use native.Mathlib.Decide.{dec_le, ℕ_discrete}
use Rattle.timex_value.specs.declared.shape.Year.{Year}
use Rattle.timex_value.specs.declared.shape.Part.{Part}
use Rattle.timex_value.specs.declared.shape.Part.TheVariants.{Known}
use Rattle.timex_value.specs.declared.shape.Shape.{Shape}
use Rattle.timex_value.specs.declared.shape.Shape.TheVariants as ShapeOf
use Rattle.timex_value.specs.Civil.{IsDate, month_length, weeks_of}
use Rattle.timex_value.specs.Filling.{Fills, CanFillAs, DigitCanBe, IsYearOf, IsClock, HasDate, HasClock, IsValidIn, HasFilling}

-- some number with two properties, which only numbers below a limit have
some_with : (P Q : ℕ → Type 0) → ((n : ℕ) → Dec (P n)) → ((n : ℕ) → Dec (Q n)) → (limit : ℕ) → ((n : ℕ) → P n → Q n → n < limit) → Dec ((n : ℕ) × P n × Q n)
some_with P Q p q limit within =
    Dec.of_iff (λ h. (h.0, h.1.0, h.1.1), λ h. (h.0, (h.1, h.2)))
    (some_number (λ n. P n × Q n) (λ n. Dec.and (p n) (q n)) limit (λ n h. within n h.0 h.1))

-- some number with a property that lies between two
some_between : (P : ℕ → Type 0) → ((n : ℕ) → Dec (P n)) → (low high : ℕ) → Dec ((n : ℕ) × P n × IsInRange low high n)
some_between P decided low high = some_with P (IsInRange low high) decided (in_range low high) (suc high) (λ n p h. omega arith)

-- whether one text is a filling of the other
fills : (text full : List ℕ) → Dec (Fills text full)
fills [] [] = yes tt
fills [] (c ∷ full) = no (λ h. h)
fills (b ∷ text) [] = no (λ h. h)
fills (b ∷ text) (c ∷ full) =
    let is_x = ℕ_discrete b (byte "X") in
    all_three (implied is_x (in_range (byte "0") (byte "9") c)) (implied (Dec.not is_x) (ℕ_discrete c b)) (fills text full)

-- whether a field of two bytes, or of one, can be a number from 1 to another
part_up_to : (part : Part) (high : ℕ) → Dec ((n : ℕ) × CanFillAs part n × IsInRange 1 high n)
part_up_to part high = some_between (CanFillAs part) (λ n. fills _ _) 1 high

digit_up_to : (part : Part) (high : ℕ) → Dec ((n : ℕ) × DigitCanBe part n × IsInRange 1 high n)
digit_up_to part high = some_between (DigitCanBe part) (λ n. fills _ _) 1 high

is_date : (y m d : ℕ) → Dec (IsDate y m d)
is_date y m d = all_three (dec_le 1 y) (in_range 1 12 m) (in_range 1 (month_length y m) d)

has_date : (y : ℕ) (month day : Part) → Dec (HasDate y month day)
has_date y month day =
    Dec.of_iff (λ h. (h.0, h.2.0, h.1, h.2.1, h.2.2), λ h. (h.0, h.2, (h.1, h.3, h.4)))
    (some_with (CanFillAs month) (λ m. (d : ℕ) × CanFillAs day d × IsDate y m d) (λ m. fills _ _)
    (λ m. some_with (CanFillAs day) (IsDate y m) (λ d. fills _ _) (is_date y m) (suc (month_length y m)) (λ d _ h. let within = h.2 in omega arith))
    13 (λ m _ h. let within = h.2.1 in omega arith))

is_clock : (h i s : ℕ) → Dec (IsClock h i s)
is_clock h i s = either (all_three (dec_le h 23) (dec_le i 59) (dec_le s 59)) (all_three (ℕ_discrete h 24) (ℕ_discrete i 0) (ℕ_discrete s 0))

-- a clock goes up to 24 hours, 59 minutes and 59 seconds
pub clock_limits : (h i s : ℕ) → IsClock h i s → (h ≤ 24) × (i < 60) × (s < 60)
clock_limits h i s (inl clock) = omega arith
clock_limits h i s (inr clock) = omega arith

has_clock : (hour minute second : Part) → Dec (HasClock hour minute second)
has_clock hour minute second =
    Dec.of_iff (λ x. (x.0, x.2.0, x.2.2.0, x.1, x.2.1, x.2.2.1, x.2.2.2), λ x. (x.0, x.3, (x.1, x.4, (x.2, x.5, x.6))))
    (some_with (CanFillAs hour) (λ h. (i : ℕ) × CanFillAs minute i × ((s : ℕ) × CanFillAs second s × IsClock h i s)) (λ h. fills _ _)
    (λ h. some_with (CanFillAs minute) (λ i. (s : ℕ) × CanFillAs second s × IsClock h i s) (λ i. fills _ _)
    (λ i. some_with (CanFillAs second) (IsClock h i) (λ s. fills _ _) (is_clock h i) 60 (λ s _ x. omega (arith, clock_limits h i s x)))
    60 (λ i _ x. omega (arith, clock_limits h i x.0 x.2)))
    25 (λ h _ x. omega (arith, clock_limits h x.0 x.2.0 x.2.2)))

-- whether a shape has a valid filling in a year, and in some year
is_valid_in : (y : ℕ) (shape : Shape) → Dec (IsValidIn y shape)
is_valid_in y ShapeOf.Year = yes tt
is_valid_in y (ShapeOf.Month month) = part_up_to month 12
is_valid_in y (ShapeOf.Day month day) = has_date y month day
is_valid_in y (ShapeOf.Week week) = part_up_to week (weeks_of y)
is_valid_in y (ShapeOf.Weekday week day) = Dec.and (part_up_to week (weeks_of y)) (digit_up_to day 7)
is_valid_in y (ShapeOf.Quarter quarter) = digit_up_to quarter 4
is_valid_in y (ShapeOf.Hour month day hour) = Dec.and (has_date y month day) (has_clock hour (Known 0) (Known 0))
is_valid_in y (ShapeOf.Minute month day hour minute) = Dec.and (has_date y month day) (has_clock hour minute (Known 0))
is_valid_in y (ShapeOf.Second month day hour minute second) = Dec.and (has_date y month day) (has_clock hour minute second)
is_valid_in y (ShapeOf.Half half) = digit_up_to half 2
is_valid_in y ShapeOf.Decade = yes tt
is_valid_in y ShapeOf.Century = yes tt

pub has_filling : (year : Year) (shape : Shape) → Dec (HasFilling year shape)
has_filling year shape =
    some_with (IsYearOf year) (λ y. IsValidIn y shape) (λ y. Dec.and (in_range 1 9999 y) (fills _ _)) (λ y. is_valid_in y shape) 10_000 (λ y h _. let within = h.0 in omega arith)
