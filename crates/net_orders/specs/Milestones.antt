-- Serves the code: the calendar with a milestone for each point, a further point that is no later than it.
use Rattle.std.specs.Prelude.{◌≡◌, ◌↔◌, ℕ, ◌+◌, ◌*◌, ◌<◌, ◌≤◌, ℤ, ◌<ℤ◌, ◌≤ℤ◌, Bool, true, false, pos, List, length, slice_index_or}
use Rattle.net_core.specs.Atoms.{IsInOrder}
use Rattle.net_core.specs.Nets.{PlainNet, points}
use Rattle.net_core.specs.Relations.{Timeline}
use Rattle.net_core.specs.declared.atom.Atom.{Atom}
use Rattle.order_closure.specs.Tables.{AreInRange, SatisfiesAll}
use Rattle.walks.specs.declared.dates.Date.{Date}
use Rattle.net_orders.specs.Steps.{KeepsDates, KeepsSpans}

-- date k of a list
abbrev pub date_at : List Date → ℕ → Date
date_at dates k = slice_index_or dates k (record { number = pos 0; point = 0 })

-- the milestone of date k, where there are n points
abbrev pub milestone_of : ℕ → List Date → ℕ → ℕ
milestone_of n dates k = n + (date_at dates k).point

-- a number is not below another, or it is above it
abbrev pub IsFrom : Bool → ℤ → ℤ → Type 0
IsFrom false x y = x ≤ℤ y
IsFrom true x y = x <ℤ y

-- Date k is the first of a list whose number is not below another, or is above it.
pub record IsFirstFrom (dates : List Date) (strict : Bool) (x : ℤ) (k : ℕ) : Type 0 where
  pub within : k < length dates
  pub from : IsFrom strict x (date_at dates k).number
  pub first : (j : ℕ) → j < k → IsFrom strict x (date_at dates j).number → ⊥

-- it is the date at this place, or there is none within the list
abbrev pub IsPlaceFrom : List Date → Bool → ℤ → ℕ → Type 0
IsPlaceFrom dates strict x place = (k : ℕ) → k < length dates → IsFirstFrom dates strict x k ↔ (k ≡ place)

-- the milestone of date k is no later than its point
abbrev pub IsAtMost : ℕ → List Date → ℕ → Timeline → Type 0
IsAtMost n dates k t = t (milestone_of n dates k) ≤ t (date_at dates k).point

-- nor than the milestone of the date that comes next
abbrev pub IsBeforeNext : ℕ → List Date → ℕ → Timeline → Type 0
IsBeforeNext n dates k t = t (milestone_of n dates k) ≤ t (milestone_of n dates (k + 1))

-- a point with an upper number is no later than the first milestone from its number on, or is before the first one past it
abbrev pub LeadsToFirst : ℕ → List Date → Bool → Date → Timeline → Type 0
LeadsToFirst n dates strict upper t = (k : ℕ) → IsFirstFrom dates strict upper.number k → IsInOrder strict (t upper.point) (t (milestone_of n dates k))

-- a timeline of n points has milestones too, none of them later than its point
pub record HasMilestones (n : ℕ) (t u : Timeline) : Type 0 where
  pub same : (p : ℕ) → p < n → u p ≡ t p
  pub early : (p : ℕ) → p < n → u (n + p) ≤ t p

-- the same of both
abbrev pub ArePlacedBefore : ℕ → List Date → Date → Timeline → Type 0
ArePlacedBefore n dates upper t = LeadsToFirst n dates false upper t × LeadsToFirst n dates true upper t

-- Orders over the points of a net and their milestones say that something is true of a timeline: it is true exactly where some milestones can be added to the timeline so that it satisfies the orders.
pub record SaysByMilestones (net : PlainNet) (IsTrue : Timeline → Type 0) (orders : List Atom) : Type 0 where
  pub in_range : AreInRange (2 * points net) orders
  pub placed : (t : Timeline) → IsTrue t → (u : Timeline) × HasMilestones (points net) t u × SatisfiesAll orders u
  pub kept : (t : Timeline) → SatisfiesAll orders t → IsTrue t

-- the orders say that all points are in the order of the calendar
abbrev pub SaysDates : PlainNet → List Atom → Type 0
SaysDates net orders = SaysByMilestones net (KeepsDates net) orders

-- the orders say what holds without any link: each interval starts before it ends, and all points are in the order of the calendar
abbrev pub AreWithMilestones : PlainNet → List Atom → Type 0
AreWithMilestones net orders = SaysByMilestones net (λ t. KeepsSpans net t × KeepsDates net t) orders
