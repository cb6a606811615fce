use Rattle.std.proofs.Common.{◌≡◌}
use Rattle.seconds_check.proofs.Following.{IsFollowed}
use Rattle.seconds_check.proofs.cycle.follow.Given as goal

-- the lines so far are joined, and this is their sum
abbrev pub invariant-loop-line : goal.invariant-loop-line
invariant-loop-line l = record {
  number : l.k ≡ l.line-index;
  so_far : IsFollowed l.timed l.lines l.line-index l.from l.at l.sum;
}
