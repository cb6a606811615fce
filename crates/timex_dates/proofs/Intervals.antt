-- Years, months and weeks as intervals of days.
use Rattle.std.proofs.Common.{◌≡◌, ℕ, zero, suc, ◌+◌, ◌-◌, ◌*◌, ◌<◌, ◌≤◌, ◌↔◌, inl, inr, arith, refl}
use Rattle.std.proofs.lemmas.Bool.{cases_lt}
use Rattle.std.specs.Int.{IsInRange}
use Rattle.timex_value.specs.Civil.{total, year_length, month_length, year_start, month_start, day_index, IsInYear, IsInMonth, IsInWeek, weekday, thursday_of, weeks_of}
use Rattle.timex_value.proofs.Days.{total-zero, total-suc, thursdays_closed, weeks_closed, year_start_closed}
use Rattle.timex_dates.specs.Seconds.{monday_of}
use Rattle.timex_dates.proofs.Totals.{total_grows, located}

pub month_length_bounds : (y m : ℕ) → (month_length y m ≤ 31) × (28 ≤ month_length y m)
month_length_bounds y m = grind arith

-- the months of a year are all of it
pub months_all : (y : ℕ) → total (month_length y) 12 ≡ year_length y
unfolding total
months_all y = grind arith

pub next_year : (y : ℕ) → 1 ≤ y → year_start (suc y) ≡ year_start y + year_length y
next_year zero h = absurd (omega arith)
next_year (suc y) h = let a : suc (suc y) - 1 ≡ suc y = omega arith in let b : suc y - 1 ≡ y = omega arith in rw (a, b) (total-suc year_length y)

pub next_month : (y m : ℕ) → 1 ≤ m → total (month_length y) m ≡ total (month_length y) (m - 1) + month_length y m
next_month y zero h = absurd (omega arith)
next_month y (suc m) h = let b : suc m - 1 ≡ m = omega arith in rw b (total-suc (month_length y) m)

-- a month is the days from its first up to the next month's
pub month_days : (n y m : ℕ) → 1 ≤ y → IsInRange 1 12 m → IsInMonth n y m ↔ ((month_start y m ≤ n) × (n < month_start y m + month_length y m))
month_days n y m year month = (
  λ h. (omega arith, omega arith),
  λ h. (n - month_start y m + 1, ((year, month, (omega arith, omega arith)), omega arith)),
)

-- a year is the days from its first up to the next year's
pub year_days : (n y : ℕ) → 1 ≤ y → IsInYear n y ↔ ((year_start y ≤ n) × (n < year_start y + year_length y))
year_days n y year = (
  λ h. (omega arith, omega (arith, next_month y h.0 (omega arith), total_grows (month_length y) h.0 12 (omega arith), months_all y)),
  λ h. let p = located (month_length y) 12 (n - year_start y) (omega (arith, months_all y)) in
      let back : suc p.0 - 1 ≡ p.0 = omega arith in
      (suc p.0, n - year_start y - total (month_length y) p.0 + 1, ((year, (omega arith, omega arith), (omega arith, omega arith)), rw back (omega arith))),
)

year_start_last : (y : ℕ) → year_start (suc y) ≡ total year_length y
year_start_last y = let back : suc y - 1 ≡ y = omega arith in rw back refl

pub year_start_grows : (y z : ℕ) → 1 ≤ y → y ≤ z → year_start y ≤ year_start z
year_start_grows y z low h = total_grows year_length (y - 1) (z - 1) (omega arith)

-- years from a first to a last one are the days from the first one's first up to those of the year after the last
pub years_days : (Y : ℕ → Type 0) (n first last : ℕ) → 1 ≤ first → first ≤ last → ((y : ℕ) → Y y ↔ IsInRange first last y) → ((y : ℕ) × Y y × IsInYear n y) ↔ ((year_start first ≤ n) × (n < year_start last + year_length last))
years_days Y n first last low order is = (
  λ h. let in_run = (is h.0).0 h.1 in
      let at = (year_days n h.0 (omega arith)).0 h.2 in
      (omega (arith, year_start_grows first h.0 low in_run.0), omega (arith, year_start_grows (suc h.0) (suc last) (omega arith) (omega arith), next_year h.0 (omega arith), next_year last (omega arith))),
  λ h. let p = located year_length last n (omega (arith, next_year last (omega arith), year_start_last last)) in
      let back : suc p.0 - 1 ≡ p.0 = omega arith in
      let above : first ≤ suc p.0 = elim (cases_lt (suc p.0) first) [
        | inl lt ↦ absurd (omega (arith, total-suc year_length p.0, total_grows year_length (suc p.0) (first - 1) (omega arith)))
        | inr le ↦ le
      ] in
      (suc p.0, (is (suc p.0)).1 (above, omega arith), (year_days n (suc p.0) (omega arith)).1 (rw back (p.2, p.3))),
)

-- 4 January is three days after the first, and 28 December three days before the last
pub january : (y : ℕ) → day_index y 1 4 ≡ year_start y + 3
january y = omega (arith, total-zero (month_length y))

pub december : (y : ℕ) → day_index y 12 28 + 4 ≡ year_start y + year_length y
december y = omega (arith, months_all y, next_month y 12 (omega arith))

-- a week is seven days from a Monday, the first of them with 4 January
pub week_days : (n y w : ℕ) → 1 ≤ y → IsInRange 1 (weeks_of y) w → IsInWeek n y w ↔ ((monday_of (day_index y 1 4) + 7 * (w - 1) ≤ n) × (n < monday_of (day_index y 1 4) + 7 * (w - 1) + 7))
week_days n y w year week =
    let e = january y in
    let is = year_days (thursday_of n) y year in
    let count = thursdays_closed y (thursday_of n - year_start y) in
    let weeks = weeks_closed y in (
      λ h. let at = is.0 h.0 in (omega arith, omega arith),
      λ h. let at : (year_start y ≤ thursday_of n) × (thursday_of n < year_start y + year_length y) = (omega arith, omega arith) in (is.1 at, omega arith),
    )

-- the weeks of years from a first to a last one
pub week_years_days : (Y : ℕ → Type 0) (n first last : ℕ) → 1 ≤ first → first ≤ last → ((y : ℕ) → Y y ↔ IsInRange first last y) → ((y : ℕ) × Y y × IsInYear (thursday_of n) y) ↔ ((monday_of (day_index first 1 4) ≤ n) × (n < monday_of (day_index last 12 28) + 7))
week_years_days Y n first last low order run =
    let e = january first in
    let f = december last in
    let is = years_days Y (thursday_of n) first last low order run in
    (λ h. let at = is.0 h in (omega arith, omega arith), λ h. is.1 (omega arith, omega arith))

-- months from a first to a last one are the days from the first one's first up to those of the month after the last
pub months_days : (M : ℕ → Type 0) (n y first last : ℕ) → 1 ≤ y → 1 ≤ first → first ≤ last → last ≤ 12 → ((m : ℕ) → M m ↔ IsInRange first last m) → ((m : ℕ) × M m × IsInMonth n y m) ↔ ((month_start y first ≤ n) × (n < month_start y last + month_length y last))
months_days M n y first last year low order high is =
    let f = month_length y in (
      λ h. let in_run = (is h.0).0 h.1 in
          let at = (month_days n y h.0 year (omega arith, omega arith)).0 h.2 in
          (omega (arith, total_grows f (first - 1) (h.0 - 1) (omega arith)), omega (arith, total_grows f h.0 last (omega arith), next_month y h.0 (omega arith), next_month y last (omega arith))),
      λ h. let p = located f last (n - year_start y) (omega (arith, next_month y last (omega arith))) in
          let back : suc p.0 - 1 ≡ p.0 = omega arith in
          let above : first ≤ suc p.0 = elim (cases_lt (suc p.0) first) [
            | inl lt ↦ absurd (omega (arith, total-suc f p.0, total_grows f (suc p.0) (first - 1) (omega arith)))
            | inr le ↦ le
          ] in
          (suc p.0, (is (suc p.0)).1 (above, omega arith), (month_days n y (suc p.0) year (omega arith, omega arith)).1 (rw back (omega arith, omega arith))),
    )

-- the nth day of a week
pub weekday_days : (n y w d : ℕ) → 1 ≤ y → IsInRange 1 (weeks_of y) w → IsInRange 1 7 d → (IsInWeek n y w × (weekday n + 1 ≡ d)) ↔ ((monday_of (day_index y 1 4) + 7 * (w - 1) + (d - 1) ≤ n) × (n < monday_of (day_index y 1 4) + 7 * (w - 1) + d))
weekday_days n y w d year week day =
    let is = week_days n y w year week in
    (λ h. let at = is.0 h.0 in (omega arith, omega arith), λ h. (is.1 (omega arith, omega arith), omega arith))

-- the years up to 9999 end before 10000-01-01
pub year_end : (y : ℕ) → IsInRange 1 9999 y → year_start y + year_length y ≤ 3_652_059
year_end y year = omega (arith, next_year y year.0, year_start_grows (suc y) 10_000 (omega arith) (omega arith), year_start_closed 10_000 (omega arith))

-- the weeks of 9999 end before 10000-01-03
pub week_end : (y w : ℕ) → IsInRange 1 9999 y → IsInRange 1 (weeks_of y) w → monday_of (day_index y 1 4) + 7 * (w - 1) + 7 ≤ 3_652_061
week_end y w year week =
    omega (arith, january y, weeks_closed y, year_end y year)
