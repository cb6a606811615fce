-- Every time has bounds, in order and in the civil calendar.
use Rattle.std.proofs.Common.{ℕ, ◌+◌, ◌-◌, ◌*◌, ◌≤◌, ◌↔◌, Some, ℤ, arith, refl, max}
use Rattle.std.specs.Int.{IsInRange}
use Rattle.jiff_core.proofs.SignedLemmas.{signed_arith}
use Rattle.net_core.specs.Bounds.{AreOrdered}
use Rattle.net_core.specs.declared.bounds.Bounds.{Bounds}
use Rattle.net_core.specs.declared.bounds.Bounds.TheVariants.{Exact, Within, Free}
use Rattle.timex_value.specs.declared.shape.Year.{Year}
use Rattle.timex_value.specs.declared.shape.Year.TheVariants as YearOf
use Rattle.timex_value.specs.declared.shape.Part.{Part}
use Rattle.timex_value.specs.declared.shape.Part.TheVariants.{Known, Unknown}
use Rattle.timex_value.specs.declared.shape.Shape.{Shape}
use Rattle.timex_value.specs.declared.shape.Shape.TheVariants as ShapeOf
use Rattle.timex_value.specs.declared.value.Value.TheVariants as ValueOf
use Rattle.timex_value.specs.Civil.{day_index, month_length, IsDate}
use Rattle.timex_value.specs.Filling.{IsYearOf}
use Rattle.timex_value.specs.Years.{HasYear}
use Rattle.timex_value.specs.Values.{year_of, shape_of}
use Rattle.timex_dates.specs.Seconds.{Extent, IsCivilSecond, second_number, monday_of}
use Rattle.timex_dates.specs.Sets.{InYears, InWeekYears, InMonth, InQuarter, InHalf, InDay, InWeek, InWeekday, InHour, InMinute, InSecond}
use Rattle.timex_dates.specs.KnownParts.{InDate, InWeekDate, InQuarterDate, InHalfDate, InShape, InAllYears, Belongs}
use Rattle.timex_dates.specs.Valid.{HasDateParts, HasWeekParts, HasQuarterPart, HasHalfPart, HasShapeParts, HasParts}
use Rattle.timex_dates.specs.Answers.{Precision, exact, within, unspecified, precision_of, HasBounds, IsCivil, EveryBounds}
use Rattle.timex_dates.proofs.Intervals.{year_days, year_end, week_end, december, month_length_bounds}
use Rattle.timex_dates.proofs.Extents.{extent_order, years_extent, week_years_extent, month_extent, quarter_extent, half_extent, day_extent, week_extent, weekday_extent, hour_extent, minute_extent, second_extent}
use Rattle.timex_dates.proofs.Fillings.{has_year, has_parts}

-- the set has an extent, whose ends have civil texts
abbrev HasExtent : (ℕ → Type 0) → Type 0
HasExtent P = (lo : ℤ) × (hi : ℤ) × Extent P lo hi × IsCivilSecond lo × IsCivilSecond hi

-- an extent whose ends are counted from 0001-01-01T00:00:00
from_first : (P : ℕ → Type 0) (a b : ℕ) → b ≤ 3_652_061 * 86_400 → Extent P (second_number a) (second_number b) → HasExtent P
from_first P a b limit extent =
    let order = extent_order P (second_number a) (second_number b) extent in
    (second_number a, second_number b, extent, omega (arith, signed_arith), omega (arith, signed_arith))

-- no date up to 9999-12-31 is later, and no last day of a month
date_end : (y m d : ℕ) → y ≤ 9999 → IsDate y m d → day_index y m d + 1 ≤ 3_652_059
date_end y m d limit date = let at = (year_days (day_index y m d) y date.0).0 (m, d, (date, refl)) in omega (arith, year_end y (date.0, limit))

month_end : (y m : ℕ) → IsInRange 1 9999 y → IsInRange 1 12 m → day_index y m (month_length y m) + 1 ≤ 3_652_059
month_end y m year month = let long = month_length_bounds y m in date_end y m (month_length y m) year.1 (year.0, month, (omega arith, omega arith))

-- the years that a year can be are those from a first to a last one
abbrev IsRange : Year → ℕ → ℕ → Type 0
IsRange year first last = (1 ≤ first) × (first ≤ last) × (last ≤ 9999) × ((y : ℕ) → IsYearOf year y ↔ IsInRange first last y)

range_of : (year : Year) → HasYear year → (first : ℕ) × (last : ℕ) × IsRange year first last
range_of (YearOf.Known y) h = (y, y, (omega arith, omega arith, omega arith, λ z. grind arith))
range_of (YearOf.Decade d) h = (max 1 (d * 10), d * 10 + 9, (omega arith, omega arith, omega arith, λ z. grind arith))
range_of (YearOf.Century c) h = (max 1 (c * 100), c * 100 + 99, (omega arith, omega arith, omega arith, λ z. grind arith))
range_of YearOf.Unknown h = (1, 9999, (omega arith, omega arith, omega arith, λ z. grind arith))

-- the seconds of years have an extent
every_year : (year : Year) → HasYear year → HasExtent (InYears year)
every_year year h =
    let range = range_of year h in
    let first = range.0 in
    let last = range.1 in
    let is = range.2 in
    from_first (InYears year) (day_index first 1 1 * 86_400) ((day_index last 12 31 + 1) * 86_400) (omega (arith, month_end last 12 (omega (arith, is), is.2) (omega arith, omega arith)))
    (years_extent year first last _ _ is.0 is.1 is.3 (omega (arith, signed_arith)) (omega (arith, signed_arith)))

-- so have those of years of weeks
every_week_year : (year : Year) → HasYear year → HasExtent (InWeekYears year)
every_week_year year h =
    let range = range_of year h in
    let first = range.0 in
    let last = range.1 in
    let is = range.2 in
    from_first (InWeekYears year) (monday_of (day_index first 1 4) * 86_400) ((monday_of (day_index last 12 28) + 7) * 86_400) (omega (arith, december last, year_end last (omega (arith, is), is.2)))
    (week_years_extent year first last _ _ is.0 is.1 is.3 (omega (arith, signed_arith)) (omega (arith, signed_arith)))

-- those of what comes before the first X in a date and its time
every_date : (y : ℕ) (month day hour minute second : Part) → IsInRange 1 9999 y → HasDateParts y month day hour minute second → HasExtent (InDate y month day hour minute second)
every_date y Unknown day hour minute second year h = every_year (YearOf.Known y) year
every_date y (Known m) Unknown hour minute second year h =
    from_first (InMonth y m) (day_index y m 1 * 86_400) ((day_index y m (month_length y m) + 1) * 86_400) (omega (arith, month_end y m year h.0))
    (month_extent y m _ _ year.0 h.0 (omega (arith, signed_arith)) (omega (arith, signed_arith)))
every_date y (Known m) (Known d) Unknown minute second year h =
    let date = h.1.0 in
    from_first (InDay y m d) (day_index y m d * 86_400) ((day_index y m d + 1) * 86_400) (omega (arith, date_end y m d year.1 date))
    (day_extent y m d _ _ date (omega (arith, signed_arith)) (omega (arith, signed_arith)))
every_date y (Known m) (Known d) (Known k) Unknown second year h =
    let date = h.1.0 in
    let clock = h.1.1 in
    let from = day_index y m d * 86_400 + k * 3600 in
    from_first (InHour y m d k) from (from + 3600) (omega (arith, date_end y m d year.1 date))
    (hour_extent y m d k _ _ date clock.0 (omega (arith, signed_arith)) (omega (arith, signed_arith)))
every_date y (Known m) (Known d) (Known k) (Known i) Unknown year h =
    let date = h.1.0 in
    let clock = h.1.1 in
    let from = day_index y m d * 86_400 + (k * 3600 + i * 60) in
    from_first (InMinute y m d k i) from (from + 60) (omega (arith, date_end y m d year.1 date))
    (minute_extent y m d k i _ _ date clock.0 clock.1.0 (omega (arith, signed_arith)) (omega (arith, signed_arith)))
every_date y (Known m) (Known d) (Known k) (Known i) (Known s) year h =
    let date = h.1.0 in
    let clock = h.1.1 in
    let from = day_index y m d * 86_400 + (k * 3600 + i * 60 + s) in
    from_first (InSecond y m d k i s) from (from + 1) (omega (arith, date_end y m d year.1 date))
    (second_extent y m d k i s _ _ date clock.0 clock.1.0 clock.1.1 (omega (arith, signed_arith)) (omega (arith, signed_arith)))

-- those of what comes before the first X in a week and its day
every_week_date : (y : ℕ) (week day : Part) → IsInRange 1 9999 y → HasWeekParts y week day → HasExtent (InWeekDate y week day)
every_week_date y Unknown day year h = every_week_year (YearOf.Known y) year
every_week_date y (Known w) Unknown year h =
    let from = monday_of (day_index y 1 4) + 7 * (w - 1) in
    from_first (InWeek y w) (from * 86_400) ((from + 7) * 86_400) (omega (arith, week_end y w year h.0))
    (week_extent y w _ _ year.0 h.0 (omega (arith, signed_arith)) (omega (arith, signed_arith)))
every_week_date y (Known w) (Known d) year h =
    let from = monday_of (day_index y 1 4) + 7 * (w - 1) + (d - 1) in
    from_first (InWeekday y w d) (from * 86_400) ((from + 1) * 86_400) (omega (arith, week_end y w year h.0))
    (weekday_extent y w d _ _ year.0 h.0 h.1 (omega (arith, signed_arith)) (omega (arith, signed_arith)))

-- those of what comes before the first X in a quarter
every_quarter : (y : ℕ) (quarter : Part) → IsInRange 1 9999 y → HasQuarterPart quarter → HasExtent (InQuarterDate y quarter)
every_quarter y Unknown year h = every_year (YearOf.Known y) year
every_quarter y (Known q) year h =
    let last = 3 * q in
    from_first (InQuarter y q) (day_index y (last - 2) 1 * 86_400) ((day_index y last (month_length y last) + 1) * 86_400) (omega (arith, month_end y last year (omega arith, omega arith)))
    (quarter_extent y q _ _ year.0 h (omega (arith, signed_arith)) (omega (arith, signed_arith)))

-- those of what comes before the first X in a half
every_half : (y : ℕ) (half : Part) → IsInRange 1 9999 y → HasHalfPart half → HasExtent (InHalfDate y half)
every_half y Unknown year h = every_year (YearOf.Known y) year
every_half y (Known k) year h =
    let last = 6 * k in
    from_first (InHalf y k) (day_index y (last - 5) 1 * 86_400) ((day_index y last (month_length y last) + 1) * 86_400) (omega (arith, month_end y last year (omega arith, omega arith)))
    (half_extent y k _ _ year.0 h (omega (arith, signed_arith)) (omega (arith, signed_arith)))

-- those of a value whose year is known
every_shape : (y : ℕ) (shape : Shape) → IsInRange 1 9999 y → HasShapeParts y shape → HasExtent (InShape y shape)
every_shape y ShapeOf.Year year h = every_year (YearOf.Known y) year
every_shape y (ShapeOf.Month m) year h = every_date y m Unknown Unknown Unknown Unknown year h
every_shape y (ShapeOf.Day m d) year h = every_date y m d Unknown Unknown Unknown year h
every_shape y (ShapeOf.Week w) year h = every_week_date y w Unknown year h
every_shape y (ShapeOf.Weekday w d) year h = every_week_date y w d year h
every_shape y (ShapeOf.Quarter q) year h = every_quarter y q year h
every_shape y (ShapeOf.Hour m d k) year h = every_date y m d k Unknown Unknown year h
every_shape y (ShapeOf.Minute m d k i) year h = every_date y m d k i Unknown year h
every_shape y (ShapeOf.Second m d k i s) year h = every_date y m d k i s year h
every_shape y (ShapeOf.Half h) year parts = every_half y h year parts
every_shape y ShapeOf.Decade year h = every_year (YearOf.Known y) year
every_shape y ShapeOf.Century year h = every_year (YearOf.Known y) year

-- those of all years that a year can be
all_years : (year : Year) (shape : Shape) → HasYear year → HasExtent (InAllYears year shape)
all_years year (ShapeOf.Week w) h = every_week_year year h
all_years year (ShapeOf.Weekday w d) h = every_week_year year h
all_years year shape h = every_year year h

-- and those that belong to any value
every_value : (year : Year) (shape : Shape) → HasYear year → HasParts year shape → HasExtent (Belongs year shape)
every_value (YearOf.Known y) shape year parts = every_shape y shape year parts
every_value year shape h parts = all_years year shape h

-- bounds of this precision, whose numbers are an extent
of_precision : (precision : Precision) (P : ℕ → Type 0) → HasExtent P → (b : Bounds) × HasBounds precision P b × AreOrdered b × IsCivil b
of_precision exact P h = (Exact h.0 h.1, h.2, extent_order P h.0 h.1 h.2, (h.3, h.4))
of_precision within P h = (Within h.0 h.1, h.2, extent_order P h.0 h.1 h.2, (h.3, h.4))
of_precision unspecified P h = (Free, refl, tt, tt)

pub every_time : EveryBounds
every_time kind modifier (Some (ValueOf.Calendar c)) =
    of_precision (precision_of kind modifier (year_of c) (shape_of c)) (Belongs (year_of c) (shape_of c)) (every_value (year_of c) (shape_of c) (has_year c) (has_parts c))
every_time kind modifier value = (Free, refl, tt, tt)
