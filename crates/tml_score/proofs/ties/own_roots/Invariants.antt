use Rattle.std.proofs.Common.{◌≡◌, length}
use Rattle.tml_score.proofs.ties.own_roots.Given as goal

-- the points so far are put
abbrev pub invariant-loop-point : goal.invariant-loop-point
invariant-loop-point l = length l.roots.items ≡ l.point
