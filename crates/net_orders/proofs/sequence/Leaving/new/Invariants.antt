use Rattle.std.proofs.Common.{◌<◌, ◌≡◌, ℕ, length, None, slice_index_or}
use Rattle.std.specs.List.{All}
use Rattle.net_orders.specs.Sequence.{IsOrderNumber}
use Rattle.net_orders.proofs.sequence.Leaving.new.Given as goal

-- the orders so far stand in the lists
abbrev pub invariant-loop-k : goal.invariant-loop-k
invariant-loop-k l = record {
  size : length l.last.items ≡ l.points;
  so_far : length l.before.items ≡ l.k;
  last : All (IsOrderNumber (length l.before.items)) l.last.items;
  before : (k : ℕ) → k < length l.before.items → IsOrderNumber k (slice_index_or l.before.items k None);
}
