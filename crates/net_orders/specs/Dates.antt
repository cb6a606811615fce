-- Serves the code: the orders that the calendar gives the points of dates.
use Rattle.std.specs.Prelude.{◌↔◌, ℕ, ◌+◌, ◌*◌, ◌/◌, ◌<◌, ℤ, ◌<ℤ◌, int_lt, ⊤, if◌then◌else◌, List, Option, Some, None, MatchOption}
use Rattle.std.specs.Int.{int_min}
use Rattle.std.specs.List.{All, Contains}
use Rattle.std.specs.Option.{option_or}
use Rattle.net_core.specs.Fits.{FollowsNumbers}
use Rattle.net_core.specs.Nets.{PlainNet, lower, points, upper}
use Rattle.net_core.specs.Relations.{Timeline}
use Rattle.net_core.specs.declared.atom.Atom.{Atom}
use Rattle.order_closure.specs.Tables.{AreInRange, SatisfiesAll}
use Rattle.walks.specs.Dates.{AreAscending, AreDates, IsDateOfPoint}
use Rattle.walks.specs.declared.dates.Date.{Date}
use Rattle.net_orders.specs.Steps.{KeepsSpans}

-- a point with an upper number, and one with a lower number, are in the order of the calendar
abbrev pub FollowsDate : Date → Date → Timeline → Type 0
FollowsDate upper lower t = FollowsNumbers (Some upper.number) (Some lower.number) (t upper.point) (t lower.point)

-- a point with an upper number, and all of some with lower numbers
abbrev pub FollowsAll : List Date → Date → Timeline → Type 0
FollowsAll lowers upper t = All (λ (lower : Date). FollowsDate upper lower t) lowers

-- all of some points with upper numbers, and all of some with lower numbers
abbrev pub AllFollow : List Date → List Date → Timeline → Type 0
AllFollow uppers lowers t = All (λ (upper : Date). FollowsAll lowers upper t) uppers

-- Orders of points below n, which say what some orders say and that something is true.
pub record ExtendsOrders (n : ℕ) (IsTrue : Timeline → Type 0) (old new : List Atom) : Type 0 where
  pub in_range : AreInRange n new
  pub exact : (t : Timeline) → SatisfiesAll new t ↔ (SatisfiesAll old t × IsTrue t)

-- Orders of points of a net. In timelines in which each interval starts before it ends they say what some orders say and that something is true.
pub record ExtendsWithSpans (net : PlainNet) (IsTrue : Timeline → Type 0) (old new : List Atom) : Type 0 where
  pub in_range : AreInRange (points net) new
  pub exact : (t : Timeline) → KeepsSpans net t → SatisfiesAll new t ↔ (SatisfiesAll old t × IsTrue t)

-- if the orders are satisfied, and each interval starts before it ends, all of some points with lower numbers follow this point
abbrev pub PutsBefore : PlainNet → List Date → List Atom → Date → Type 0
PutsBefore net lowers orders date = (t : Timeline) → KeepsSpans net t → SatisfiesAll orders t → FollowsAll lowers date t

-- that is so for each point with an upper number above this one
abbrev pub PutsGreaterBefore : PlainNet → List Date → List Atom → ℤ → Type 0
PutsGreaterBefore net lowers orders number = (date : Date) → IsDateOfPoint (upper net) (points net) date → number <ℤ date.number → PutsBefore net lowers orders date

-- that is so for the last fixed point, if there is one: it has one of these lower numbers
abbrev pub PutsLastBefore : PlainNet → List Date → List Atom → Option Date → Type 0
PutsLastBefore net lowers orders last = MatchOption last ⊤ (λ date. Contains lowers date × PutsBefore net lowers orders date)

-- A point with an upper number comes next, after points with greater numbers: the dates are all points with lower numbers, the least first, and the orders of those before it put all of these after each point with an upper number above this one.
pub record IsNextUpper (net : PlainNet) (lowers : List Date) (orders : List Atom) (upper : Date) : Type 0 where
  pub point : upper.point < points net
  pub dates : AreDates (lower net) (points net) lowers
  pub sorted : AreAscending lowers
  pub in_range : AreInRange (points net) orders
  pub above : PutsGreaterBefore net lowers orders upper.number

-- the lesser of two numbers, of those that there are
abbrev pub earlier : Option ℤ → Option ℤ → Option ℤ
earlier (Some x) (Some y) = Some (int_min x y)
earlier (Some x) None = Some x
earlier None other = other

-- a number, if it is above this one
abbrev pub only_after : ℤ → Option ℤ → Option ℤ
only_after number (Some end) = if int_lt number end then Some end else None
only_after number None = None

-- the end of the interval that a point is of
abbrev pub end_of : ℕ → ℕ
end_of point = 2 * (point / 2) + 1

-- the upper number of a point, or else of the end of its interval, if it is above this one
abbrev pub end_after : PlainNet → ℕ → ℤ → Option ℤ
end_after net point number = option_or (only_after number (upper net point)) (only_after number (upper net (end_of point)))
