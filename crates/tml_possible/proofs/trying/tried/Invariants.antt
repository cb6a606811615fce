use Rattle.std.proofs.Common.{◌<◌, ℕ}
use Rattle.net_core.specs.Relations.{Holds}
use Rattle.tml_possible.specs.Sets.{IsSetOf}
use Rattle.tml_possible.specs.Trying.{AreKeptAmong, end_ranks}
use Rattle.tml_possible.proofs.trying.tried.Given as goal

-- the relations that hold of ranks so far which the cells allow
abbrev pub invariant-loop-code : goal.invariant-loop-code
invariant-loop-code l = record {
  set : IsSetOf (λ r. (n : ℕ) × (n < l.code) × AreKeptAmong l.closed l.a l.b (end_ranks n).0 (end_ranks n).1 × Holds (end_ranks n).0 r (end_ranks n).1) l.set;
}
