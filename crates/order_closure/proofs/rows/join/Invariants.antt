use Rattle.std.proofs.Common.{◌≡◌, ℕ, ◌<◌, ◌≤◌, get_or, bit_or}
use Rattle.order_closure.proofs.rows.join.Given as goal

-- the words so far are joined, the others are as they were
abbrev pub invariant-loop-k : goal.invariant-loop-k
invariant-loop-k l = record {
  done : (p : ℕ) → p < l.k → get_or l.row p 0 ≡ bit_or (get_or l.fn.row p 0) (get_or l.over p 0);
  others : (p : ℕ) → l.k ≤ p → get_or l.row p 0 ≡ get_or l.fn.row p 0;
}
