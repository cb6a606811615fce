use Rattle.std.proofs.Common.{◌+◌, ◌-◌, ◌≤◌, ℕ, length}
use Rattle.memchr.specs.Find.{OccursAt}
use Rattle.tml_span.proofs.enclosed.find_closing.Given as goal

-- no closing text ends among the bytes that were looked at
abbrev pub invariant-loop-ahead : goal.invariant-loop-ahead
invariant-loop-ahead l = record {
  within : l.end ≤ length l.bytes;
  none : (k : ℕ) → k + length l.close ≤ l.end → OccursAt l.bytes l.close k → ⊥;
}

abbrev pub decreases-loop-ahead : goal.decreases-loop-ahead
decreases-loop-ahead l = length l.bytes - l.end
