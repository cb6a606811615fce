-- Serves the code: what a search from one point to another has visited.
use Rattle.std.specs.Prelude.{◌≡◌, ◌⊎◌, ℕ, ◌<◌, Bool, length}
use Rattle.net_core.specs.Nets.{PlainNet, points}
use Rattle.walks.specs.Graphs.{IsWay}
use Rattle.walks.specs.States.{AreTraced, HasEnd, IsExpanded, PlainStates, entry_at, start_entry}
use Rattle.walks.specs.declared.graph.Graph.{Graph}

-- The search began at a point, steps lead to all that it visited, and it has visited the point that is asked for, or all that steps lead to.
pub record IsSearched (net : PlainNet) (graph : Graph) (from to : ℕ) (strict : Bool) (states : PlainStates) : Type 0 where
  pub points : states.points ≡ points net
  pub some : 0 < length states.entries
  pub start : entry_at states.entries 0 ≡ start_entry from
  pub traced : AreTraced (IsWay net graph) from states.entries
  pub done : HasEnd to strict states.entries ⊎ ((k : ℕ) → k < length states.entries → IsExpanded (IsWay net graph) states.entries k)
