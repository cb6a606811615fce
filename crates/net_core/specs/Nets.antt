-- Nets of intervals: what a calendar says of each, and links between them.
use Rattle.std.specs.Prelude.{ℕ, ◌*◌, ◌/◌, ◌%◌, ◌<◌, ◌≤◌, ◌==◌, ℤ, List, length, Option, slice_index_or}
use Rattle.std.specs.List.{All}
use Rattle.net_core.specs.declared.bounds.Bounds.{Bounds}
use Rattle.net_core.specs.declared.bounds.Bounds.TheVariants.{Free}
use Rattle.net_core.specs.declared.net.NetLink.{NetLink}
use Rattle.net_core.specs.declared.rels.Rel.TheVariants as rel
use Rattle.net_core.specs.Bounds.{AreOrdered, lower_of, upper_of}
use Rattle.net_core.specs.Limits.{max_intervals, max_links}

pub record PlainNet : Type 0 where
  pub bounds : List Bounds
  pub links : List NetLink

abbrev pub intervals : PlainNet → ℕ
intervals net = length net.bounds

-- each interval has two points: its start and its end
abbrev pub points : PlainNet → ℕ
points net = 2 * length net.bounds

abbrev pub bounds_at : PlainNet → ℕ → Bounds
bounds_at net i = slice_index_or net.bounds i Free

abbrev pub link_at : PlainNet → ℕ → NetLink
link_at net k = slice_index_or net.links k (record { a = 0; rel = rel.Before; b = 0 })

-- No more intervals and links than the limits allow, numbers in order, and links between intervals of the net.
pub record IsNet (net : PlainNet) : Type 0 where
  pub few_intervals : length net.bounds ≤ max_intervals
  pub few_links : length net.links ≤ max_links
  pub ordered : All AreOrdered net.bounds
  pub ends : All (λ (l : NetLink). (l.a < length net.bounds) × (l.b < length net.bounds)) net.links

-- the number that a point is not below: point p is the start of interval p / 2, or where p is odd its end
abbrev pub lower : PlainNet → ℕ → Option ℤ
lower net p = lower_of (bounds_at net (p / 2)) (p % 2 == 1)

-- the number that a point is not above
abbrev pub upper : PlainNet → ℕ → Option ℤ
upper net p = upper_of (bounds_at net (p / 2)) (p % 2 == 1)
