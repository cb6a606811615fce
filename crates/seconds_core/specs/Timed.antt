-- Nets of intervals with limits of how long they last.
use Rattle.std.specs.Prelude.{◌≡◌, ℕ, ℤ, pos, neg_ℤ, ◌≤ℤ◌, ⊤, List, length, Option, None, IfSome, slice_index_or}
use Rattle.std.specs.List.{All}
use Rattle.net_core.specs.Nets.{IsNet, PlainNet, lower, points, upper}
use Rattle.net_core.specs.declared.bounds.Bounds.{Bounds}
use Rattle.net_core.specs.declared.bounds.Bounds.TheVariants.{Exact, Within, Free}
use Rattle.seconds_core.specs.declared.timed.Limits.{Limits}

-- no number of a calendar is further from second 0
abbrev pub max_second : ℕ
max_second = 1000000000000000

-- no limit of a length is greater
abbrev pub max_length : ℕ
max_length = 700000000000000

abbrev pub IsSecond : ℤ → Type 0
IsSecond n = (neg_ℤ (pos max_second) ≤ℤ n) × (n ≤ℤ pos max_second)

abbrev pub IsLength : ℤ → Type 0
IsLength n = (neg_ℤ (pos 1) ≤ℤ n) × (n ≤ℤ pos max_length)

abbrev pub AreLengths : Limits → Type 0
AreLengths limits = IfSome limits.least IsLength × IfSome limits.most IsLength

abbrev pub AreSeconds : Bounds → Type 0
AreSeconds (Exact lo hi) = IsSecond lo × IsSecond hi
AreSeconds (Within lo hi) = IsSecond lo × IsSecond hi
AreSeconds Free = ⊤

pub record PlainTimed : Type 0 where
  pub net : PlainNet
  pub limits : List Limits

-- A net, whose calendar is not too far from second 0, and limits of each of its intervals.
pub record IsTimed (timed : PlainTimed) : Type 0 where
  pub net : IsNet timed.net
  pub size : length timed.limits ≡ length timed.net.bounds
  pub lengths : All AreLengths timed.limits
  pub near : All AreSeconds timed.net.bounds

abbrev pub limits_at : PlainTimed → ℕ → Limits
limits_at timed i = slice_index_or timed.limits i (record { least = None; most = None })

-- the point of second 0, which no interval has
abbrev pub origin : PlainTimed → ℕ
origin timed = points timed.net

-- the second that a point is not before, and the one that it is not after
abbrev pub lower_second : PlainTimed → ℕ → Option ℤ
lower_second timed p = lower timed.net p

abbrev pub upper_second : PlainTimed → ℕ → Option ℤ
upper_second timed p = upper timed.net p
