-- Serves the code: the years that a year can be, and those in which a shape is tried.
use Rattle.std.specs.Prelude.{ℕ, ◌≤◌}
use Rattle.std.specs.Int.{IsInRange}
use Rattle.timex_value.specs.declared.shape.Year.{Year}
use Rattle.timex_value.specs.declared.shape.Year.TheVariants as YearOf
use Rattle.timex_value.specs.declared.shape.Shape.{Shape}
use Rattle.timex_value.specs.Filling.{IsValidIn, IsYearOf}

-- there is a year from 1 to 9999 that is a filling of the year
abbrev pub HasYear : Year → Type 0
HasYear (YearOf.Known y) = IsInRange 1 9999 y
HasYear (YearOf.Decade d) = d ≤ 999
HasYear (YearOf.Century c) = c ≤ 99
HasYear YearOf.Unknown = Unit {0}

-- a filling of the shape is valid in some year of these
abbrev pub IsValidBetween : ℕ → ℕ → Shape → Type 0
IsValidBetween first last shape = (y : ℕ) × IsInRange first last y × IsValidIn y shape

-- what is valid in a year that the year can be is valid in one of these
abbrev pub AreEnough : ℕ → ℕ → Year → Type 0
AreEnough first last year = (y : ℕ) (shape : Shape) → IsYearOf year y → IsValidIn y shape → IsValidBetween first last shape
