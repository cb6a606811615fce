use Rattle.std.proofs.Common.{◌≡◌, ℕ, ◌<◌}
use Rattle.net_core.specs.Nets.{intervals}
use Rattle.seconds_core.specs.Placed.{KeepsLimits}
use Rattle.seconds_check.proofs.placing.first_wrong_length.Given as goal

-- those before it last as long as their limits say
abbrev pub invariant-loop-interval : goal.invariant-loop-interval
invariant-loop-interval l = (l.interval-end ≡ intervals l.timed.net) × ((j : ℕ) → j < l.interval → KeepsLimits l.timed l.seconds j)
