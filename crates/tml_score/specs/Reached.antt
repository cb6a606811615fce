-- Serves the code: the points that a search has reached.
use Rattle.std.specs.Prelude.{◌≡◌, ℕ, ◌<◌, ◌≤◌, List, length, slice_index}
use Rattle.net_core.specs.Limits.{max_points}

-- the points, in the order in which they were reached, and how many points there are
pub record PlainReached : Type 0 where
  pub points : List ℕ
  pub room : ℕ

-- Each point stands at the place that is kept for it.
pub record StandAtPlaces (points places : List ℕ) : Type 0 where
  pub few : length places ≤ max_points
  pub room : (i : ℕ) → i < length points → slice_index points i < length places
  pub placed : (i : ℕ) → i < length points → slice_index places (slice_index points i) ≡ i
