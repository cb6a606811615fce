-- Least timelines, and ranks that are least.
use Rattle.std.specs.Prelude.{◌≡◌, ℕ, ◌<◌, ◌≤◌, List, [], length, slice_index, slice_index_or}
use Rattle.net_core.specs.Clashes.{Others}
use Rattle.net_core.specs.Fits.{Fits, FitsWith}
use Rattle.net_core.specs.Nets.{PlainNet, points}
use Rattle.net_core.specs.Ranks.{timeline_of}
use Rattle.net_core.specs.Relations.{Timeline}

-- a timeline has a property, and at each point below n it is at most every timeline that has it
pub record IsLeast (n : ℕ) (P : Timeline → Type 0) (t : Timeline) : Type 0 where
  pub holds : P t
  pub least : (u : Timeline) → P u → (p : ℕ) → p < n → t p ≤ u p

-- Ranks of n points that are the least timeline that has a property; each is below n.
pub record AreLeast (n : ℕ) (P : Timeline → Type 0) (ranks : List ℕ) : Type 0 where
  pub size : length ranks ≡ n
  pub least : IsLeast n P (timeline_of ranks)
  pub small : (p : ℕ) → p < n → slice_index ranks p < n

-- two ranks for each interval, which are those of the least timeline that fits the net
abbrev pub AreLeastRanks : PlainNet → List ℕ → Type 0
AreLeastRanks net ranks = (length ranks ≡ points net) × IsLeast (points net) (Fits net) (timeline_of ranks)

-- ranks that are the least with which the links of a set but one hold
abbrev pub IsSpare : PlainNet → (ℕ → Type 0) → ℕ → List ℕ → Type 0
IsSpare net Chosen k ranks = AreLeast (points net) (FitsWith net (Others Chosen k)) ranks

-- there is a spare for each cite, in order
abbrev pub AreSpares : PlainNet → (ℕ → Type 0) → List ℕ → List (List ℕ) → Type 0
AreSpares net Chosen cites spares = (length spares ≡ length cites) × ((i : ℕ) → i < length cites → IsSpare net Chosen (slice_index cites i) (slice_index_or spares i []))
