-- Placings: a whole second for the start and one for the end of each interval.
use Rattle.std.specs.Prelude.{◌≡◌, ℕ, ◌+◌, ◌*◌, ◌<◌, ℤ, pos, ◌-ℤ◌, ◌<ℤ◌, ◌≤ℤ◌, List, length, Option, IfSome, slice_index_or}
use Rattle.net_core.specs.Nets.{intervals, link_at, points}
use Rattle.net_core.specs.declared.net.NetLink.{NetLink}
use Rattle.seconds_core.specs.Relations.{HoldsInSeconds}
use Rattle.seconds_core.specs.Timed.{PlainTimed, limits_at, lower_second, upper_second}

-- the second of a point; that of the origin, which is past them all, is 0
abbrev pub second_at : List ℤ → ℕ → ℤ
second_at seconds p = slice_index_or seconds p (pos 0)

-- the first second of an interval, and the first one after it
abbrev pub start_at : List ℤ → ℕ → ℤ
start_at seconds i = second_at seconds (2 * i)

abbrev pub end_at : List ℤ → ℕ → ℤ
end_at seconds i = second_at seconds (2 * i + 1)

-- the relation of a link holds of its intervals
abbrev pub KeepsLinkInSeconds : List ℤ → NetLink → Type 0
KeepsLinkInSeconds seconds link = HoldsInSeconds (start_at seconds link.a) (end_at seconds link.a) link.rel (start_at seconds link.b) (end_at seconds link.b)

-- the interval starts before it ends
abbrev pub StartsFirstInSeconds : List ℤ → ℕ → Type 0
StartsFirstInSeconds seconds i = start_at seconds i <ℤ end_at seconds i

-- how long an interval lasts
abbrev pub lasts : List ℤ → ℕ → ℤ
lasts seconds i = end_at seconds i -ℤ start_at seconds i

-- a number is within a lower and an upper one, of those that are there
abbrev pub IsBetween : Option ℤ → Option ℤ → ℤ → Type 0
IsBetween low high n = IfSome low (λ m. m ≤ℤ n) × IfSome high (λ m. n ≤ℤ m)

-- the point is in the calendar
abbrev pub KeepsBounds : PlainTimed → List ℤ → ℕ → Type 0
KeepsBounds timed seconds p = IsBetween (lower_second timed p) (upper_second timed p) (second_at seconds p)

-- the interval lasts as long as its limits say
abbrev pub KeepsLimits : PlainTimed → List ℤ → ℕ → Type 0
KeepsLimits timed seconds i = IsBetween (limits_at timed i).least (limits_at timed i).most (lasts seconds i)

-- Two seconds for each interval are a placing: each interval starts before it ends, each link holds, each point is in the calendar, and each interval lasts as long as its limits say.
pub record IsPlaced (timed : PlainTimed) (seconds : List ℤ) : Type 0 where
  pub size : length seconds ≡ points timed.net
  pub order : (i : ℕ) → i < intervals timed.net → StartsFirstInSeconds seconds i
  pub links : (k : ℕ) → k < length timed.net.links → KeepsLinkInSeconds seconds (link_at timed.net k)
  pub bounds : (p : ℕ) → p < points timed.net → KeepsBounds timed seconds p
  pub limits : (i : ℕ) → i < intervals timed.net → KeepsLimits timed seconds i

-- there is a placing
abbrev pub HasPlacing : PlainTimed → Type 0
HasPlacing timed = (seconds : List ℤ) × IsPlaced timed seconds
