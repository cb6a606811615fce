-- The calendar repeats every 400 years.
use Rattle.std.proofs.Common.{◌≡◌, ℕ, ◌+◌, ◌-◌, ◌*◌, ◌/◌, ◌%◌, ◌≤◌, ◌||◌, ◌==◌, if◌then◌else◌, sym, ap, ◌∙◌, subst, arith}
use Rattle.std.proofs.lemmas.Bool.Decides.{nat_tests}
use Rattle.std.specs.Int.{IsInRange}
use Rattle.timex_value.specs.Civil.{is_leap, year_length, year_start, weeks_of}
use Rattle.timex_value.specs.Filling.{IsValidIn, HasDate, HasWeek}
use Rattle.timex_value.specs.declared.shape.Part.{Part}
use Rattle.timex_value.specs.declared.shape.Shape.{Shape}
use Rattle.timex_value.specs.declared.shape.Shape.TheVariants as ShapeOf
use Rattle.timex_value.proofs.Days.{year_start_closed, weeks_closed}

leap_again : (y k : ℕ) → is_leap (y + 400 * k) ≡ is_leap y
leap_again y k = grind (arith, nat_tests)

-- 400 years have 146,097 days
pub start_again : (y k : ℕ) → 1 ≤ y → year_start (y + 400 * k) ≡ year_start y + 146_097 * k
start_again y k h = omega (arith, year_start_closed y h, year_start_closed (y + 400 * k) (omega arith))

-- and these are 20,871 weeks
weeks_again : (y k : ℕ) → 1 ≤ y → weeks_of (y + 400 * k) ≡ weeks_of y
weeks_again y k h =
    let length : year_length (y + 400 * k) ≡ year_length y = ap (λ b. if b then 366 else 365) (leap_again y k) in
    let start = start_again y k h in
    let before = weeks_closed y in
    let after = weeks_closed (y + 400 * k) in
    omega arith

-- in a year that is as long, and has as many weeks, the same shapes are valid
date_again : (y z : ℕ) (month day : Part) → is_leap y ≡ is_leap z → 1 ≤ z → HasDate y month day → HasDate z month day
date_again y z month day leap first h =
    let length = ap (λ b. if h.0 == 2 then (if b then 29 else 28) else (if (h.0 == 4) || (h.0 == 6) || (h.0 == 9) || (h.0 == 11) then 30 else 31)) leap in
    (h.0, h.1, h.2, h.3, (first, h.4.1, subst (λ n. IsInRange 1 n h.1) length h.4.2))

week_again : (y z : ℕ) (week : Part) → weeks_of y ≡ weeks_of z → HasWeek y week → HasWeek z week
week_again y z week weeks h = (h.0, h.1, subst (λ n. IsInRange 1 n h.0) weeks h.2)

valid_again : (y z : ℕ) (shape : Shape) → is_leap y ≡ is_leap z → weeks_of y ≡ weeks_of z → 1 ≤ z → IsValidIn y shape → IsValidIn z shape
valid_again y z ShapeOf.Year leap weeks first h = h
valid_again y z (ShapeOf.Month month) leap weeks first h = h
valid_again y z (ShapeOf.Day month day) leap weeks first h = date_again y z month day leap first h
valid_again y z (ShapeOf.Week week) leap weeks first h = week_again y z week weeks h
valid_again y z (ShapeOf.Weekday week day) leap weeks first h = (week_again y z week weeks h.0, h.1)
valid_again y z (ShapeOf.Quarter quarter) leap weeks first h = h
valid_again y z (ShapeOf.Hour month day hour) leap weeks first h = (date_again y z month day leap first h.0, h.1)
valid_again y z (ShapeOf.Minute month day hour minute) leap weeks first h = (date_again y z month day leap first h.0, h.1)
valid_again y z (ShapeOf.Second month day hour minute second) leap weeks first h = (date_again y z month day leap first h.0, h.1)
valid_again y z (ShapeOf.Half half) leap weeks first h = h
valid_again y z ShapeOf.Decade leap weeks first h = h
valid_again y z ShapeOf.Century leap weeks first h = h

-- what is valid in a year from a first one on is valid in one of 400
pub valid_early : (first y : ℕ) (shape : Shape) → 1 ≤ first → first ≤ y → IsValidIn y shape → (z : ℕ) × IsInRange first (first + 399) z × (z ≤ y) × IsValidIn z shape
valid_early first y shape some from h =
    let z = (y - first) % 400 + first in
    let k = (y - first) / 400 in
    let e : z + 400 * k ≡ y = omega arith in
    let leap = sym (ap is_leap e) ∙ leap_again z k in
    let weeks = sym (ap weeks_of e) ∙ weeks_again z k (omega arith) in
    (z, (omega arith, omega arith), omega arith, valid_again y z shape leap weeks (omega arith) h)
