use Rattle.std.proofs.Common.{◌≡◌, ℕ, ◌<◌}
use Rattle.net_core.specs.Nets.{points}
use Rattle.seconds_core.specs.Placed.{KeepsBounds}
use Rattle.seconds_check.proofs.placing.first_outside.Given as goal

-- those before it are in the calendar
abbrev pub invariant-loop-point : goal.invariant-loop-point
invariant-loop-point l = (l.point-end ≡ points l.timed.net) × ((j : ℕ) → j < l.point → KeepsBounds l.timed l.seconds j)
