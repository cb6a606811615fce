-- The known part of a calendar value: what comes before its first X.
use Rattle.std.specs.Prelude.{ℕ, Bool, true, false, ◌&&◌}
use Rattle.timex_value.specs.declared.shape.Year.{Year}
use Rattle.timex_value.specs.declared.shape.Year.TheVariants as YearOf
use Rattle.timex_value.specs.declared.shape.Part.{Part}
use Rattle.timex_value.specs.declared.shape.Part.TheVariants.{Known, Unknown}
use Rattle.timex_value.specs.declared.shape.Shape.{Shape}
use Rattle.timex_value.specs.declared.shape.Shape.TheVariants as ShapeOf
use Rattle.timex_dates.specs.Sets.{InYears, InWeekYears, InMonth, InQuarter, InHalf, InDay, InWeek, InWeekday, InHour, InMinute, InSecond}

-- the seconds of what comes before the first X in a month, a day, an hour, a minute and a second of the year
abbrev pub InDate : ℕ → Part → Part → Part → Part → Part → ℕ → Type 0
InDate y Unknown d h i s = InYears (YearOf.Known y)
InDate y (Known m) Unknown h i s = InMonth y m
InDate y (Known m) (Known d) Unknown i s = InDay y m d
InDate y (Known m) (Known d) (Known h) Unknown s = InHour y m d h
InDate y (Known m) (Known d) (Known h) (Known i) Unknown = InMinute y m d h i
InDate y (Known m) (Known d) (Known h) (Known i) (Known s) = InSecond y m d h i s

-- the seconds of what comes before the first X in a week of the year and its day
abbrev pub InWeekDate : ℕ → Part → Part → ℕ → Type 0
InWeekDate y Unknown d = InWeekYears (YearOf.Known y)
InWeekDate y (Known w) Unknown = InWeek y w
InWeekDate y (Known w) (Known d) = InWeekday y w d

-- the seconds of what comes before the first X in a quarter of the year
abbrev pub InQuarterDate : ℕ → Part → ℕ → Type 0
InQuarterDate y Unknown = InYears (YearOf.Known y)
InQuarterDate y (Known q) = InQuarter y q

-- the seconds of what comes before the first X in a half of the year
abbrev pub InHalfDate : ℕ → Part → ℕ → Type 0
InHalfDate y Unknown = InYears (YearOf.Known y)
InHalfDate y (Known h) = InHalf y h

-- the seconds that belong to a value with this year; a field that its shape does not have counts as X. No decade and no
-- century has a year of four digits (`IsYearFor`), so what is said of them here is said of no value
abbrev pub InShape : ℕ → Shape → ℕ → Type 0
InShape y ShapeOf.Year = InYears (YearOf.Known y)
InShape y (ShapeOf.Month m) = InDate y m Unknown Unknown Unknown Unknown
InShape y (ShapeOf.Day m d) = InDate y m d Unknown Unknown Unknown
InShape y (ShapeOf.Week w) = InWeekDate y w Unknown
InShape y (ShapeOf.Weekday w d) = InWeekDate y w d
InShape y (ShapeOf.Quarter q) = InQuarterDate y q
InShape y (ShapeOf.Hour m d h) = InDate y m d h Unknown Unknown
InShape y (ShapeOf.Minute m d h i) = InDate y m d h i Unknown
InShape y (ShapeOf.Second m d h i s) = InDate y m d h i s
InShape y (ShapeOf.Half h) = InHalfDate y h
InShape y ShapeOf.Decade = InYears (YearOf.Known y)
InShape y ShapeOf.Century = InYears (YearOf.Known y)

-- the seconds of all years that the year can be, which are years of weeks where the shape has a week
abbrev pub InAllYears : Year → Shape → ℕ → Type 0
InAllYears year (ShapeOf.Week w) = InWeekYears year
InAllYears year (ShapeOf.Weekday w d) = InWeekYears year
InAllYears year shape = InYears year

-- the seconds that belong to a value
abbrev pub Belongs : Year → Shape → ℕ → Type 0
Belongs (YearOf.Known y) shape = InShape y shape
Belongs year shape = InAllYears year shape

-- the field is not X
abbrev pub is_part_known : Part → Bool
is_part_known (Known n) = true
is_part_known Unknown = false

-- no field after the year is X
abbrev pub is_full : Shape → Bool
is_full ShapeOf.Year = true
is_full (ShapeOf.Month m) = is_part_known m
is_full (ShapeOf.Day m d) = is_part_known m && is_part_known d
is_full (ShapeOf.Week w) = is_part_known w
is_full (ShapeOf.Weekday w d) = is_part_known w && is_part_known d
is_full (ShapeOf.Quarter q) = is_part_known q
is_full (ShapeOf.Hour m d h) = is_part_known m && is_part_known d && is_part_known h
is_full (ShapeOf.Minute m d h i) = is_part_known m && is_part_known d && is_part_known h && is_part_known i
is_full (ShapeOf.Second m d h i s) = is_part_known m && is_part_known d && is_part_known h && is_part_known i && is_part_known s
is_full (ShapeOf.Half h) = is_part_known h
is_full ShapeOf.Decade = true
is_full ShapeOf.Century = true

-- the shape is a decade or a century
abbrev pub is_years : Shape → Bool
is_years ShapeOf.Decade = true
is_years ShapeOf.Century = true
is_years shape = false

-- the value has no X: fewer than four digits of a year are all of it where the shape is a decade or a century
abbrev pub is_whole : Year → Shape → Bool
is_whole (YearOf.Known y) shape = is_full shape
is_whole (YearOf.Decade d) shape = is_years shape
is_whole (YearOf.Century c) shape = is_years shape
is_whole year shape = false
