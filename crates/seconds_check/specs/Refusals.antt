-- Why evidence of seconds is refused: the first reason.
use Rattle.std.specs.Prelude.{◌≡◌, ◌≢◌, ◌⊎◌, ℕ, ◌+◌, ◌*◌, ◌%◌, ◌<◌, ℤ, pos, ◌≤ℤ◌, ⊤, List, length, take, Option, None, Some}
use Rattle.net_core.specs.Firsts.{IsFirst}
use Rattle.net_core.specs.Nets.{intervals, link_at, points}
use Rattle.seconds_core.specs.declared.line.Line.{Line}
use Rattle.seconds_core.specs.Cycles.{LeadFromTo, sum_of}
use Rattle.seconds_core.specs.Evidence.{PlainSeconds, Placed, Cycle}
use Rattle.seconds_core.specs.Placed.{KeepsBounds, KeepsLimits, KeepsLinkInSeconds, StartsFirstInSeconds}
use Rattle.seconds_core.specs.Timed.{PlainTimed}
use Rattle.seconds_check.specs.Confirmed.{IsConfirmed}
use Rattle.seconds_check.specs.declared.refusal.SecondsReason.{SecondsReason}
use Rattle.seconds_check.specs.declared.refusal.SecondsReason.TheVariants.{Size, Order, Link, Bound, Length, Step, End, Sum}

-- there are two seconds for each interval
abbrev pub HasSecondsSize : PlainTimed → List ℤ → Type 0
HasSecondsSize timed seconds = length seconds ≡ points timed.net

-- the first interval, if any, that does not start before it ends
abbrev pub FirstUnorderedSeconds : PlainTimed → List ℤ → Option ℕ → Type 0
FirstUnorderedSeconds timed seconds first = IsFirst (intervals timed.net) (StartsFirstInSeconds seconds) first

-- the first link, if any, that does not hold
abbrev pub FirstBroken : PlainTimed → List ℤ → Option ℕ → Type 0
FirstBroken timed seconds first = IsFirst (length timed.net.links) (λ k. KeepsLinkInSeconds seconds (link_at timed.net k)) first

-- the first point, if any, that is not in the calendar
abbrev pub FirstOutside : PlainTimed → List ℤ → Option ℕ → Type 0
FirstOutside timed seconds first = IsFirst (points timed.net) (KeepsBounds timed seconds) first

-- the first interval, if any, that does not last as long as its limits say
abbrev pub FirstWrongLength : PlainTimed → List ℤ → Option ℕ → Type 0
FirstWrongLength timed seconds first = IsFirst (intervals timed.net) (KeepsLimits timed seconds) first

-- The seconds are no placing, for this reason and for none before it.
abbrev pub IsMisplaced : PlainTimed → List ℤ → SecondsReason → Type 0
IsMisplaced timed seconds (Size size) = (length seconds ≡ 2 * size) × (size ≢ intervals timed.net)
IsMisplaced timed seconds (Order interval) = HasSecondsSize timed seconds × FirstUnorderedSeconds timed seconds (Some interval)
IsMisplaced timed seconds (Link link) = HasSecondsSize timed seconds × FirstUnorderedSeconds timed seconds None × FirstBroken timed seconds (Some link)
IsMisplaced timed seconds (Bound point) = HasSecondsSize timed seconds × FirstUnorderedSeconds timed seconds None × FirstBroken timed seconds None × FirstOutside timed seconds (Some point)
IsMisplaced timed seconds (Length interval) =
    HasSecondsSize timed seconds × FirstUnorderedSeconds timed seconds None × FirstBroken timed seconds None × FirstOutside timed seconds None × FirstWrongLength timed seconds (Some interval)
IsMisplaced timed seconds other = ⊥

-- the lines are joined from a point on
abbrev pub LinesGoFrom : PlainTimed → ℕ → List Line → Type 0
LinesGoFrom timed x lines = (y : ℕ) × LeadFromTo timed lines x y

-- the lines are joined from some point to some point
abbrev pub LinesGoOn : PlainTimed → List Line → Type 0
LinesGoOn timed lines = (x : ℕ) × LinesGoFrom timed x lines

-- The lines are no negative cycle, for this reason and for none before it: line k is the first that names no constraint or does not begin where the one before it ended; they do not end where they begin; or their sum is not below 0.
abbrev pub IsNoCycle : PlainTimed → List Line → SecondsReason → Type 0
IsNoCycle timed lines (Step k) = (k < length lines) × LinesGoOn timed (take k lines) × (LinesGoOn timed (take (k + 1) lines) → ⊥)
IsNoCycle timed lines End = (x : ℕ) × (y : ℕ) × LeadFromTo timed lines x y × (x ≢ y)
IsNoCycle timed lines Sum = (x : ℕ) × LeadFromTo timed lines x x × (pos 0 ≤ℤ sum_of timed lines)
IsNoCycle timed lines other = ⊥

-- why seconds are no placing, or lines no negative cycle
abbrev pub AreSecondsRefused : PlainTimed → PlainSeconds → SecondsReason → Type 0
AreSecondsRefused timed (Placed seconds) = IsMisplaced timed seconds
AreSecondsRefused timed (Cycle lines) = IsNoCycle timed lines

-- the law: evidence is not both confirmed and refused, and is refused for one reason at most
pub record SecondsVerdicts (timed : PlainTimed) (e : PlainSeconds) : Type 0 where
  pub not_both : (reason : SecondsReason) → IsConfirmed timed e → AreSecondsRefused timed e reason → ⊥
  pub one_refusal : (reason other : SecondsReason) → AreSecondsRefused timed e reason → AreSecondsRefused timed e other → reason ≡ other

abbrev pub OneSecondsVerdict : Type 0
OneSecondsVerdict = (timed : PlainTimed) (e : PlainSeconds) → SecondsVerdicts timed e

-- seconds come in pairs, as those of every placing do; lines may be any
abbrev pub IsPaired : PlainSeconds → Type 0
IsPaired (Placed seconds) = length seconds % 2 ≡ 0
IsPaired (Cycle lines) = ⊤

-- the law: evidence is confirmed, or refused
abbrev pub ConfirmedOrRefused : Type 0
ConfirmedOrRefused = (timed : PlainTimed) (e : PlainSeconds) → IsPaired e → IsConfirmed timed e ⊎ ((reason : SecondsReason) × AreSecondsRefused timed e reason)
