use Rattle.std.proofs.Common.{◌≡◌, map, take}
use Rattle.std.specs.List.{All}
use Rattle.seconds_core.specs.Timed.{AreLengths}
use Rattle.seconds_build.specs.Built.{interval_limits}
use Rattle.seconds_build.proofs.build.all_limits.Given as goal

-- the limits so far are those of the first intervals
abbrev pub invariant-loop-i : goal.invariant-loop-i
invariant-loop-i l = record {
  limits : l.limits ≡ map interval_limits (take l.i l.document.intervals);
  lengths : All AreLengths l.limits;
}
