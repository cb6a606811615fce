-- When evidence of seconds is confirmed.
use Rattle.seconds_core.specs.Cycles.{IsNegative}
use Rattle.seconds_core.specs.Evidence.{PlainSeconds, Placed, Cycle}
use Rattle.seconds_core.specs.Placed.{IsPlaced}
use Rattle.seconds_core.specs.Timed.{PlainTimed}

-- Seconds are confirmed where they are a placing, and lines where they are a cycle whose sum is below 0.
abbrev pub IsConfirmed : PlainTimed → PlainSeconds → Type 0
IsConfirmed timed (Placed seconds) = IsPlaced timed seconds
IsConfirmed timed (Cycle lines) = IsNegative timed lines
