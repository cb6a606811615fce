use Rattle.std.proofs.Common.{◌≡◌, ℕ, ◌<◌}
use Rattle.net_core.specs.Nets.{intervals}
use Rattle.seconds_core.specs.Placed.{StartsFirstInSeconds}
use Rattle.seconds_check.proofs.placing.first_unordered.Given as goal

-- those before it start before they end
abbrev pub invariant-loop-interval : goal.invariant-loop-interval
invariant-loop-interval l = (l.interval-end ≡ intervals l.timed.net) × ((j : ℕ) → j < l.interval → StartsFirstInSeconds l.seconds j)
