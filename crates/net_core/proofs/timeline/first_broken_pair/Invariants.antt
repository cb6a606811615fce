use Rattle.std.proofs.Common.{◌≡◌, ℕ, ◌<◌}
use Rattle.net_core.specs.Fits.{KeepsCalendar}
use Rattle.net_core.specs.Nets.{points}
use Rattle.net_core.specs.Ranks.{timeline_of}
use Rattle.net_core.proofs.timeline.first_broken_pair.Given as goal

-- all pairs from those before it are in order
abbrev pub invariant-loop-from : goal.invariant-loop-from
invariant-loop-from l = (l.from-end ≡ points l.net) × ((p q : ℕ) → p < l.from → q < points l.net → KeepsCalendar l.net (timeline_of l.ranks) p q)
