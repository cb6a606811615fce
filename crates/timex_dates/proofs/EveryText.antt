-- A day has a date, and a second of the civil calendar a civil text.
use Rattle.std.proofs.Common.{◌≡◌, ℕ, suc, pos, ◌+ℤ◌, unsigned_abs, arith, refl}
use Rattle.std.specs.Int.{IsInRange}
use Rattle.jiff_core.proofs.SignedLemmas.{signed_arith, one_part}
use Rattle.timex_value.specs.Civil.{IsInYear}
use Rattle.timex_value.proofs.Days.{year_length_bounds, year_start_closed}
use Rattle.timex_dates.specs.Seconds.{second_number, day_of, clock_of}
use Rattle.timex_dates.specs.Printed.{EveryText, printed}
use Rattle.timex_dates.proofs.Intervals.{years_days}

-- a day lies in a year
in_some_year : (n : ℕ) → (y : ℕ) × IsInRange 1 (suc n) y × IsInYear n y
in_some_year n =
    (years_days (IsInRange 1 (suc n)) n 1 (suc n) (omega arith) (omega arith) (λ y. (λ h. h, λ h. h))).1
    (omega (arith, year_start_closed 1 (omega arith)), omega (arith, year_start_closed (suc n) (omega arith), year_length_bounds (suc n)))

pub every_text : EveryText
every_text second civil =
    let t = unsigned_abs (second +ℤ pos 62_135_596_800) in
    let there : second ≡ second_number t = omega (arith, signed_arith, one_part (second +ℤ pos 62_135_596_800)) in
    let day = in_some_year (day_of t) in
    let date = day.2 in
    (printed day.0 date.0 date.1 (clock_of t), (t, there, (day.0, date.0, date.1, date.2, refl)))
