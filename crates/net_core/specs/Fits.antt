-- Timelines that fit a net.
use Rattle.std.specs.Prelude.{◌≡◌, ℕ, ◌*◌, ◌+◌, ◌<◌, ◌≤◌, ℤ, ◌<ℤ◌, ⊤, List, length, Option, Some, None}
use Rattle.net_core.specs.Nets.{PlainNet, intervals, points, link_at, lower, upper}
use Rattle.net_core.specs.Relations.{Relates, Timeline}
use Rattle.net_core.specs.Ranks.{timeline_of}

-- the interval starts before it ends
abbrev pub StartsFirst : Timeline → ℕ → Type 0
StartsFirst t i = t (2 * i) < t (2 * i + 1)

-- the link holds
abbrev pub KeepsLink : PlainNet → Timeline → ℕ → Type 0
KeepsLink net t k = Relates t (link_at net k).a (link_at net k).rel (link_at net k).b

-- one point is before another where its upper number is below the lower number of the other, and not after it where both numbers are the same
abbrev pub FollowsNumbers : Option ℤ → Option ℤ → ℕ → ℕ → Type 0
FollowsNumbers (Some u) (Some l) m n = (u <ℤ l → m < n) × (u ≡ l → m ≤ n)
FollowsNumbers (Some u) None m n = ⊤
FollowsNumbers None l m n = ⊤

-- the points are in the order of the calendar, where it gives one
abbrev pub KeepsCalendar : PlainNet → Timeline → ℕ → ℕ → Type 0
KeepsCalendar net t p q = FollowsNumbers (upper net p) (lower net q) (t p) (t q)

-- A timeline fits with a set of links: each interval starts before it ends, each link of the set holds, and all points are in the order of the calendar.
pub record FitsWith (net : PlainNet) (Chosen : ℕ → Type 0) (t : Timeline) : Type 0 where
  pub order : (i : ℕ) → i < intervals net → StartsFirst t i
  pub links : (k : ℕ) → k < length net.links → Chosen k → KeepsLink net t k
  pub calendar : (p q : ℕ) → p < points net → q < points net → KeepsCalendar net t p q

abbrev pub EveryLink : ℕ → Type 0
EveryLink k = ⊤

-- a timeline fits the net where it fits with all its links
abbrev pub Fits : PlainNet → Timeline → Type 0
Fits net t = FitsWith net EveryLink t

-- there are two ranks for each interval of the net, and as a timeline they fit with a set of links
abbrev pub RanksFitWith : PlainNet → (ℕ → Type 0) → List ℕ → Type 0
RanksFitWith net Chosen ranks = (length ranks ≡ points net) × FitsWith net Chosen (timeline_of ranks)

abbrev pub RanksFit : PlainNet → List ℕ → Type 0
RanksFit net ranks = RanksFitWith net EveryLink ranks
