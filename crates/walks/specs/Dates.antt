-- Points with the numbers that the calendar gives them.
use Rattle.std.specs.Prelude.{◌≡◌, ◌↔◌, ℕ, ◌<◌, ◌==◌, ℤ, ◌≤ℤ◌, List, Option, Some}
use Rattle.std.specs.List.{All, Contains, IsDistinct}
use Rattle.std.specs.List.Sorted.{IsSortedByKey}
use Rattle.std.specs.Ordering.{int_cmp}
use Rattle.net_core.specs.Nets.{PlainNet, lower, upper}
use Rattle.walks.specs.declared.dates.Date.{Date}
use Rattle.walks.specs.declared.dates.Side.{Side}
use Rattle.walks.specs.declared.dates.Side.TheVariants.{Lower, Upper}

-- the number that a point is not below, or not above
abbrev pub number_at : Side → PlainNet → ℕ → Option ℤ
number_at Lower net p = lower net p
number_at Upper net p = upper net p

-- the date of a point below n
abbrev pub IsDateOfPoint : (ℕ → Option ℤ) → ℕ → Date → Type 0
IsDateOfPoint number n date = (date.point < n) × (number date.point ≡ Some date.number)

-- no point stands twice
abbrev pub AreOfDistinctPoints : List Date → Type 0
AreOfDistinctPoints dates = IsDistinct (λ (x y : Date). x.point == y.point) dates

-- the points below n that have a number, each once and with its number, in any order
pub record AreDates (number : ℕ → Option ℤ) (n : ℕ) (dates : List Date) : Type 0 where
  pub right : All (IsDateOfPoint number n) dates
  pub whole : (p : ℕ) (x : ℤ) → p < n → number p ≡ Some x → Contains dates (record { number = x; point = p })
  pub once : AreOfDistinctPoints dates

-- all dates are of points below n
abbrev pub AreDatesBelow : ℕ → List Date → Type 0
AreDatesBelow n dates = All (λ (date : Date). date.point < n) dates

-- the least number comes first: none is less than the one before it
abbrev pub AreAscending : List Date → Type 0
AreAscending dates = IsSortedByKey (λ (date : Date). date.number) int_cmp dates

-- the greatest number comes first: none is greater than the one before it
abbrev pub AreDescending : List Date → Type 0
AreDescending dates = IsSortedByKey (λ (date : Date). date.number) (λ x y. int_cmp y x) dates

-- the dates whose numbers are not below a number, of all of a list
abbrev pub AreDatesFrom : ℤ → List Date → List Date → Type 0
AreDatesFrom number all dates = (date : Date) → Contains dates date ↔ (Contains all date × (number ≤ℤ date.number))
