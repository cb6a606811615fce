use Rattle.std.proofs.Common.{◌≡◌, ℕ, ◌<◌, length}
use Rattle.net_core.specs.Clashes.{Agrees}
use Rattle.evidence_check.proofs.closed_walks.first_disagreement.Given as goal

-- the walk agrees with the cites on the links so far
abbrev pub invariant-loop-k : goal.invariant-loop-k
invariant-loop-k l = record {
  end : l.count ≡ length l.net.links;
  so_far : (j : ℕ) → j < l.k → Agrees l.cites l.steps j;
}
