use Rattle.std.proofs.Common.{◌≡◌, ℕ, ◌*◌, ◌<◌, ◌≤◌, get_or}
use Rattle.order_closure.specs.Bits.{bit_of}
use Rattle.timeline.specs.Ranking.{raised}
use Rattle.timeline.proofs.ranking.raise_after.Given as goal

-- the ranks of the words so far are raised, the others are as they were
abbrev pub invariant-loop-k : goal.invariant-loop-k
invariant-loop-k l = record {
  done : (q : ℕ) → q < 64 * l.k → get_or l.ranks q 0 ≡ raised (bit_of l.row q) l.least (get_or l.fn.ranks q 0);
  others : (q : ℕ) → 64 * l.k ≤ q → get_or l.ranks q 0 ≡ get_or l.fn.ranks q 0;
}
