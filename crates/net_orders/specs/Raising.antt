-- Serves the code: ranks that are raised until they fit.
use Rattle.std.specs.Prelude.{◌≡◌, ℕ, ◌<◌, ◌≤◌, List, length, slice_index}
use Rattle.net_core.specs.Limits.{max_points}
use Rattle.net_core.specs.Ranks.{timeline_of}
use Rattle.net_core.specs.Relations.{Timeline}

-- no rank is above that of a timeline
abbrev pub AreUnder : List ℕ → Timeline → Type 0
AreUnder ranks t = (p : ℕ) → p < length ranks → slice_index ranks p ≤ t p

-- no rank is above the highest that is given, which is as many as there can be points
abbrev pub AreRanksWithin : List ℕ → Type 0
AreRanksWithin ranks = (p : ℕ) → slice_index ranks p ≤ max_points

-- each rank is below the highest
abbrev pub AreLow : List ℕ → Type 0
AreLow ranks = (p : ℕ) → slice_index ranks p < max_points

-- Ranks rose, but not past any timeline of which something is true, nor past the highest.
pub record RanksRise (IsTrue : Timeline → Type 0) (old new : List ℕ) : Type 0 where
  pub size : length new ≡ length old
  pub higher : (p : ℕ) → slice_index old p ≤ slice_index new p
  pub under : (t : Timeline) → IsTrue t → AreUnder old t → AreUnder new t
  pub within : AreRanksWithin old → AreRanksWithin new

-- Ranks rose as far as they must: where none did, and all are low, it is true of them.
pub record RisesUntil (IsTrue : Timeline → Type 0) (old new : List ℕ) : Type 0 where
  pub rises : RanksRise IsTrue old new
  pub settled : new ≡ old → AreLow old → IsTrue (timeline_of old)
