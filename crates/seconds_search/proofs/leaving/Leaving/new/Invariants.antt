use Rattle.std.proofs.Common.{◌<◌, ◌≡◌, ℕ, length, None, slice_index_or}
use Rattle.std.specs.List.{All}
use Rattle.seconds_search.specs.Leaving.{IsEdgeNumber}
use Rattle.seconds_search.proofs.leaving.Leaving.new.Given as goal

-- the edges so far stand in the lists
abbrev pub invariant-loop-number : goal.invariant-loop-number
invariant-loop-number l = record {
  size : length l.last.items ≡ l.points;
  so_far : length l.before.items ≡ l.number;
  last : All (IsEdgeNumber l.number) l.last.items;
  before : (k : ℕ) → k < l.number → IsEdgeNumber k (slice_index_or l.before.items k None);
}
