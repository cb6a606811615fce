-- Serves the code: numbers of orders, by the points that the orders leave.
use Rattle.std.specs.Prelude.{◌≡◌, ℕ, ◌<◌, length, List, None, Option, IfSome, slice_index_or}
use Rattle.std.specs.List.{All}
use Rattle.net_core.specs.declared.atom.Atom.{Atom}
use Rattle.order_closure.specs.Tables.{AreInRange}
use Rattle.net_orders.specs.declared.sequence.Leaving.{Leaving}
use Rattle.net_orders.specs.declared.sequence.Visit.{Visit}
use Rattle.net_orders.specs.declared.sequence.Sequence.{Sequence}
use Rattle.net_orders.specs.declared.schedule.Schedule.{Schedule}

-- a number is one of n orders, if there is one
abbrev pub IsOrderNumber : ℕ → Option ℕ → Type 0
IsOrderNumber n next = IfSome next (λ k. k < n)

-- The numbers are those of orders, and in each list they fall.
pub record AreLeavingLists (leaving : Leaving) : Type 0 where
  pub last : All (IsOrderNumber (length leaving.before.items)) leaving.last.items
  pub before : (k : ℕ) → k < length leaving.before.items → IsOrderNumber k (slice_index_or leaving.before.items k None)

-- the point of a visit is one that orders may leave, and it is left by an order next, if by any
abbrev pub IsVisit : Leaving → Visit → Type 0
IsVisit leaving visit = (visit.point < length leaving.last.items) × IsOrderNumber (length leaving.before.items) visit.next

-- numbers of n points
abbrev pub ArePoints : ℕ → List ℕ → Type 0
ArePoints n met = All (λ (point : ℕ). point < n) met

-- Points are met along orders of n points: the lists by the points that the orders leave are those of the orders, and what was met are such points.
pub record AreMetAlong (n : ℕ) (leaving : Leaving) (orders : List Atom) (met : List ℕ) : Type 0 where
  pub lists : AreLeavingLists leaving
  pub of_points : length leaving.last.items ≡ n
  pub of_orders : length leaving.before.items ≡ length orders
  pub in_range : AreInRange n orders
  pub points : ArePoints n met

-- A sequence of some orders of n points: numbers of them, and one for each point.
pub record IsSequence (n : ℕ) (orders : List Atom) (sequence : Sequence) : Type 0 where
  pub numbers : All (λ k. k < length orders) sequence.numbers.items
  pub left : length sequence.left.items ≡ n

-- A schedule of some orders of n points: numbers of them, and a component for each point, if it has one.
pub record IsSchedule (n : ℕ) (orders : List Atom) (schedule : Schedule) : Type 0 where
  pub numbers : All (λ k. k < length orders) schedule.numbers.items
  pub components : length schedule.components.items ≡ n
