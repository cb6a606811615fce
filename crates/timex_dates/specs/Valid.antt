-- Serves the code: the calendar has the known part of a value.
use Rattle.std.specs.Prelude.{ℕ, ◌<◌, ◌≤◌}
use Rattle.std.specs.Int.{IsInRange}
use Rattle.timex_value.specs.declared.shape.Year.{Year}
use Rattle.timex_value.specs.declared.shape.Year.TheVariants as YearOf
use Rattle.timex_value.specs.declared.shape.Part.{Part}
use Rattle.timex_value.specs.declared.shape.Part.TheVariants.{Known, Unknown}
use Rattle.timex_value.specs.declared.shape.Shape.{Shape}
use Rattle.timex_value.specs.declared.shape.Shape.TheVariants as ShapeOf
use Rattle.timex_value.specs.Civil.{IsDate, weeks_of}

-- the number of the field has the property, if it is known
abbrev pub IfKnown : Part → (ℕ → Type 0) → Type 0
IfKnown (Known n) P = P n
IfKnown Unknown P = Unit {0}

-- a day has what comes before the first X in an hour, a minute and a second
abbrev pub HasClockParts : Part → Part → Part → Type 0
HasClockParts hour minute second =
    IfKnown hour (λ h. (h ≤ 24) × IfKnown minute (λ i. (i < 60) × IfKnown second (λ s. s < 60)))

-- the year has what comes before the first X in a month, a day, an hour, a minute and a second
abbrev pub HasDateParts : ℕ → Part → Part → Part → Part → Part → Type 0
HasDateParts y month day hour minute second =
    IfKnown month (λ m. IsInRange 1 12 m × IfKnown day (λ d. IsDate y m d × HasClockParts hour minute second))

-- the year of weeks has what comes before the first X in a week and its day
abbrev pub HasWeekParts : ℕ → Part → Part → Type 0
HasWeekParts y week day = IfKnown week (λ w. IsInRange 1 (weeks_of y) w × IfKnown day (λ d. IsInRange 1 7 d))

-- a year has the quarter
abbrev pub HasQuarterPart : Part → Type 0
HasQuarterPart quarter = IfKnown quarter (λ q. IsInRange 1 4 q)

-- a year has the half
abbrev pub HasHalfPart : Part → Type 0
HasHalfPart half = IfKnown half (λ h. IsInRange 1 2 h)

-- the year has the known part of the shape
abbrev pub HasShapeParts : ℕ → Shape → Type 0
HasShapeParts y ShapeOf.Year = Unit {0}
HasShapeParts y (ShapeOf.Month m) = HasDateParts y m Unknown Unknown Unknown Unknown
HasShapeParts y (ShapeOf.Day m d) = HasDateParts y m d Unknown Unknown Unknown
HasShapeParts y (ShapeOf.Week w) = HasWeekParts y w Unknown
HasShapeParts y (ShapeOf.Weekday w d) = HasWeekParts y w d
HasShapeParts y (ShapeOf.Quarter q) = HasQuarterPart q
HasShapeParts y (ShapeOf.Hour m d h) = HasDateParts y m d h Unknown Unknown
HasShapeParts y (ShapeOf.Minute m d h i) = HasDateParts y m d h i Unknown
HasShapeParts y (ShapeOf.Second m d h i s) = HasDateParts y m d h i s
HasShapeParts y (ShapeOf.Half h) = HasHalfPart h
HasShapeParts y ShapeOf.Decade = Unit {0}
HasShapeParts y ShapeOf.Century = Unit {0}

-- the same for a year that is known
abbrev pub HasParts : Year → Shape → Type 0
HasParts (YearOf.Known y) shape = HasShapeParts y shape
HasParts year shape = Unit {0}
