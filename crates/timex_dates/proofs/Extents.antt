-- Sets that are intervals have their ends.
use Rattle.std.proofs.Common.{◌≡◌, ℕ, ◌+◌, ◌-◌, ◌*◌, ◌/◌, ◌<◌, ◌≤◌, ◌↔◌, arith, refl, ℤ, pos, ◌+ℤ◌, ◌*ℤ◌, ◌<ℤ◌}
use Rattle.std.specs.Int.{IsInRange}
use Rattle.jiff_core.proofs.SignedLemmas.{signed_arith}
use Rattle.timex_value.specs.declared.shape.Year.{Year}
use Rattle.timex_value.specs.Filling.{IsYearOf}
use Rattle.timex_dates.specs.Seconds.{day_number, second_number, day_of, Extent, monday_of}
use Rattle.timex_dates.specs.Sets.{InYears, InMonth, InDay, InHour, InMinute, InSecond, InWeek, InWeekYears, InQuarter, InHalf, InWeekday}
use Rattle.timex_value.specs.Civil.{year_start, year_length, month_start, month_length, day_index, IsDate, IsDateOf, IsInYear, IsInMonth, IsInWeek, weeks_of, thursday_of, weekday}
use Rattle.timex_value.proofs.Days.{total-zero, year_length_bounds}
use Rattle.timex_dates.proofs.Totals.{total_grows}
use Rattle.timex_dates.proofs.Intervals.{months_all, next_month, month_days, years_days, year_start_grows, month_length_bounds, week_days, week_years_days, months_days, weekday_days, january, december}

-- a set that has the seconds from a to b, without b
pub interval_extent : (P : ℕ → Type 0) (a b : ℕ) → a < b → ((t : ℕ) → P t ↔ ((a ≤ t) × (t < b)))
    → Extent P (second_number a) (second_number b)
unfolding Extent
interval_extent P a b lt is = (
  (a, refl, (is a).1 (omega arith, lt)),
  λ s h. let at = (is h.0).0 h.2 in omega (arith, signed_arith),
  (b - 1, omega (arith, signed_arith), (is (b - 1)).1 (omega arith, omega arith)),
  λ s h. let at = (is h.0).0 h.2 in omega (arith, signed_arith),
)

-- an extent is not empty
pub extent_order : (P : ℕ → Type 0) (lo hi : ℤ) → Extent P lo hi → lo <ℤ hi
unfolding Extent
extent_order P lo hi h = h.3 lo h.0

-- lo is the first second of the day n
abbrev pub IsStart : ℤ → ℕ → Type 0
IsStart lo n = lo ≡ day_number n *ℤ pos 86_400

-- hi is the first second after the day n
abbrev pub IsEnd : ℤ → ℕ → Type 0
IsEnd hi n = hi ≡ (day_number n +ℤ pos 1) *ℤ pos 86_400

-- a set of whole days that is an interval
pub days_extent : (P : ℕ → Type 0) (a b : ℕ) (lo hi : ℤ) → a < b → ((n : ℕ) → P n ↔ ((a ≤ n) × (n < b)))
    → IsStart lo a → IsStart hi b → Extent (λ t. P (day_of t)) lo hi
days_extent P a b lo hi lt is low high =
    let e : lo ≡ second_number (a * 86_400) = omega (arith, signed_arith) in
    let f : hi ≡ second_number (b * 86_400) = omega (arith, signed_arith) in
    rw (e, f) (interval_extent (λ t. P (day_of t)) (a * 86_400) (b * 86_400) (omega arith)
    (λ t. (λ h. let at = (is (day_of t)).0 h in (omega arith, omega arith), λ h. (is (day_of t)).1 (omega arith, omega arith))))

pub years_extent : (year : Year) (first last : ℕ) (lo hi : ℤ) → 1 ≤ first → first ≤ last
    → ((y : ℕ) → IsYearOf year y ↔ IsInRange first last y) → IsStart lo (day_index first 1 1)
    → IsEnd hi (day_index last 12 31) → Extent (InYears year) lo hi
years_extent year first last lo hi low order is e f =
    days_extent (λ n. (y : ℕ) × IsYearOf year y × IsInYear n y) (year_start first) (year_start last + year_length last) lo hi
    (omega (arith, year_start_grows first last low order, year_length_bounds last))
    (λ n. years_days (IsYearOf year) n first last low order is)
    (omega (arith, signed_arith, total-zero (month_length first)))
    (omega (arith, signed_arith, months_all last, next_month last 12 (omega arith)))

pub month_extent : (y m : ℕ) (lo hi : ℤ) → 1 ≤ y → IsInRange 1 12 m → IsStart lo (day_index y m 1)
    → IsEnd hi (day_index y m (month_length y m)) → Extent (InMonth y m) lo hi
month_extent y m lo hi low month e f =
    let long = month_length_bounds y m in
    days_extent (λ n. IsInMonth n y m) (month_start y m) (month_start y m + month_length y m) lo hi (omega arith)
    (λ n. month_days n y m low month)
    (omega (arith, signed_arith))
    (omega (arith, signed_arith))

pub day_extent : (y m d : ℕ) (lo hi : ℤ) → IsDate y m d → IsStart lo (day_index y m d) → IsEnd hi (day_index y m d)
    → Extent (InDay y m d) lo hi
day_extent y m d lo hi date e f =
    days_extent (λ n. IsDateOf n y m d) (day_index y m d) (day_index y m d + 1) lo hi (omega arith)
    (λ n. (λ h. (omega arith, omega arith), λ h. (date, omega arith)))
    e
    (omega (arith, signed_arith))

-- the seconds from one into a day up to a later one
clock_extent : (P : ℕ → Type 0) (n from size : ℕ) (lo hi : ℤ) → 0 < size
    → ((t : ℕ) → P t ↔ ((n * 86_400 + from ≤ t) × (t < n * 86_400 + from + size)))
    → lo ≡ day_number n *ℤ pos 86_400 +ℤ pos from → hi ≡ lo +ℤ pos size → Extent P lo hi
clock_extent P n from size lo hi some is e f =
    let low : lo ≡ second_number (n * 86_400 + from) = omega (arith, signed_arith) in
    let high : hi ≡ second_number (n * 86_400 + from + size) = omega (arith, signed_arith) in
    rw (low, high) (interval_extent P (n * 86_400 + from) (n * 86_400 + from + size) (omega arith) is)

pub hour_extent : (y m d hour : ℕ) (lo hi : ℤ) → IsDate y m d → hour ≤ 24
    → lo ≡ day_number (day_index y m d) *ℤ pos 86_400 +ℤ pos (hour * 3600) → hi ≡ lo +ℤ pos 3600
    → Extent (InHour y m d hour) lo hi
hour_extent y m d hour lo hi date h e f =
    clock_extent (InHour y m d hour) (day_index y m d) (hour * 3600) 3600 lo hi (omega arith)
    (λ t. (λ at. (omega arith, omega arith), λ at. (date, omega arith, omega arith))) e f

pub minute_extent : (y m d hour minute : ℕ) (lo hi : ℤ) → IsDate y m d → hour ≤ 24 → minute < 60
    → lo ≡ day_number (day_index y m d) *ℤ pos 86_400 +ℤ pos (hour * 3600 + minute * 60) → hi ≡ lo +ℤ pos 60
    → Extent (InMinute y m d hour minute) lo hi
minute_extent y m d hour minute lo hi date h k e f =
    clock_extent (InMinute y m d hour minute) (day_index y m d) (hour * 3600 + minute * 60) 60 lo hi (omega arith)
    (λ t. (λ at. (omega arith, omega arith), λ at. ((date, omega arith, omega arith), omega arith))) e f

pub second_extent : (y m d hour minute second : ℕ) (lo hi : ℤ) → IsDate y m d → hour ≤ 24 → minute < 60 → second < 60
    → lo ≡ day_number (day_index y m d) *ℤ pos 86_400 +ℤ pos (hour * 3600 + minute * 60 + second) → hi ≡ lo +ℤ pos 1
    → Extent (InSecond y m d hour minute second) lo hi
second_extent y m d hour minute second lo hi date h k l e f =
    clock_extent (InSecond y m d hour minute second) (day_index y m d) (hour * 3600 + minute * 60 + second) 1 lo hi (omega arith)
    (λ t. (λ at. (omega arith, omega arith), λ at. (((date, omega arith, omega arith), omega arith), omega arith))) e f

months_extent : (M : ℕ → Type 0) (y first last : ℕ) (lo hi : ℤ) → 1 ≤ y → 1 ≤ first → first ≤ last → last ≤ 12
    → ((m : ℕ) → M m ↔ IsInRange first last m) → IsStart lo (day_index y first 1)
    → IsEnd hi (day_index y last (month_length y last)) → Extent (λ t. (m : ℕ) × M m × IsInMonth (day_of t) y m) lo hi
months_extent M y first last lo hi year low order high is e f =
    let long = month_length_bounds y last in
    days_extent (λ n. (m : ℕ) × M m × IsInMonth n y m) (month_start y first) (month_start y last + month_length y last) lo hi
    (omega (arith, total_grows (month_length y) (first - 1) (last - 1) (omega arith)))
    (λ n. months_days M n y first last year low order high is)
    (omega (arith, signed_arith))
    (omega (arith, signed_arith))

pub quarter_extent : (y q : ℕ) (lo hi : ℤ) → 1 ≤ y → IsInRange 1 4 q → IsStart lo (day_index y (3 * q - 2) 1)
    → IsEnd hi (day_index y (3 * q) (month_length y (3 * q))) → Extent (InQuarter y q) lo hi
quarter_extent y q lo hi low quarter e f =
    months_extent (λ m. (m + 2) / 3 ≡ q) y (3 * q - 2) (3 * q) lo hi low (omega arith) (omega arith) (omega arith)
    (λ m. (λ is. (omega arith, omega arith), λ is. omega arith)) e f

pub half_extent : (y h : ℕ) (lo hi : ℤ) → 1 ≤ y → IsInRange 1 2 h → IsStart lo (day_index y (6 * h - 5) 1)
    → IsEnd hi (day_index y (6 * h) (month_length y (6 * h))) → Extent (InHalf y h) lo hi
half_extent y h lo hi low half e f =
    months_extent (λ m. (m + 5) / 6 ≡ h) y (6 * h - 5) (6 * h) lo hi low (omega arith) (omega arith) (omega arith)
    (λ m. (λ is. (omega arith, omega arith), λ is. omega arith)) e f

pub weekday_extent : (y w d : ℕ) (lo hi : ℤ) → 1 ≤ y → IsInRange 1 (weeks_of y) w → IsInRange 1 7 d
    → lo ≡ (day_number (monday_of (day_index y 1 4)) +ℤ pos (7 * (w - 1) + (d - 1))) *ℤ pos 86_400
    → hi ≡ lo +ℤ pos (1 * 86_400) → Extent (InWeekday y w d) lo hi
weekday_extent y w d lo hi low week day e f =
    let a = monday_of (day_index y 1 4) + 7 * (w - 1) in
    days_extent (λ n. IsInWeek n y w × (weekday n + 1 ≡ d)) (a + (d - 1)) (a + d) lo hi (omega arith)
    (λ n. weekday_days n y w d low week day)
    (omega (arith, signed_arith))
    (omega (arith, signed_arith))

pub week_extent : (y w : ℕ) (lo hi : ℤ) → 1 ≤ y → IsInRange 1 (weeks_of y) w
    → lo ≡ (day_number (monday_of (day_index y 1 4)) +ℤ pos (7 * (w - 1))) *ℤ pos 86_400 → hi ≡ lo +ℤ pos (7 * 86_400)
    → Extent (InWeek y w) lo hi
week_extent y w lo hi low week e f =
    let a = monday_of (day_index y 1 4) + 7 * (w - 1) in
    days_extent (λ n. IsInWeek n y w) a (a + 7) lo hi (omega arith)
    (λ n. week_days n y w low week)
    (omega (arith, signed_arith))
    (omega (arith, signed_arith))

pub week_years_extent : (year : Year) (first last : ℕ) (lo hi : ℤ) → 1 ≤ first → first ≤ last
    → ((y : ℕ) → IsYearOf year y ↔ IsInRange first last y) → IsStart lo (monday_of (day_index first 1 4))
    → hi ≡ (day_number (monday_of (day_index last 12 28)) +ℤ pos 7) *ℤ pos 86_400 → Extent (InWeekYears year) lo hi
week_years_extent year first last lo hi low order is e f =
    days_extent (λ n. (y : ℕ) × IsYearOf year y × IsInYear (thursday_of n) y) (monday_of (day_index first 1 4)) (monday_of (day_index last 12 28) + 7) lo hi
    (omega (arith, year_start_grows first last low order, january first, december last))
    (λ n. week_years_days (IsYearOf year) n first last low order is)
    (omega (arith, signed_arith))
    (omega (arith, signed_arith))
