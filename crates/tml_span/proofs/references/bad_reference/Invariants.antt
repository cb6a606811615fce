use Rattle.std.proofs.Common.{ℕ, ◌≤◌, ◌<◌, ◌-◌, length}
use Rattle.tml_span.specs.References.{IsBadAt}
use Rattle.tml_span.proofs.references.bad_reference.Given as goal

-- nothing is bad so far
abbrev pub invariant-loop-ahead : goal.invariant-loop-ahead
invariant-loop-ahead l = record {
  within : l.index ≤ length l.bytes;
  none : (k : ℕ) → k < l.index → IsBadAt l.bytes k → ⊥;
}

abbrev pub decreases-loop-ahead : goal.decreases-loop-ahead
decreases-loop-ahead l = length l.bytes - l.index
