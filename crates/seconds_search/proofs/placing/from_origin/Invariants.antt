use Rattle.std.proofs.Common.{◌≡◌, ℕ, ◌+◌, ◌<◌, ◌≤◌, ◌-ℤ◌, length}
use Rattle.seconds_core.specs.Placed.{second_at}
use Rattle.seconds_search.proofs.placing.from_origin.Given as goal

-- the points before this one are counted from the origin, and the others are as they were
abbrev pub invariant-loop-point : goal.invariant-loop-point
invariant-loop-point l = record {
  end : l.point-end ≡ length l.seconds.items;
  size : length l.seconds.items + 1 ≡ length l.fn.seconds.items;
  zero : l.zero ≡ second_at l.fn.seconds.items (length l.seconds.items);
  counted : (p : ℕ) → p < l.point → second_at l.seconds.items p ≡ second_at l.fn.seconds.items p -ℤ l.zero;
  others : (p : ℕ) → l.point ≤ p → p < length l.seconds.items → second_at l.seconds.items p ≡ second_at l.fn.seconds.items p;
}
