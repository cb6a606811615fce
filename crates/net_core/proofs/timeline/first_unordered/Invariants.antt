use Rattle.std.proofs.Common.{◌≡◌, ℕ, ◌<◌}
use Rattle.net_core.specs.Fits.{StartsFirst}
use Rattle.net_core.specs.Nets.{intervals}
use Rattle.net_core.specs.Ranks.{timeline_of}
use Rattle.net_core.proofs.timeline.first_unordered.Given as goal

-- those before it start before they end
abbrev pub invariant-loop-i : goal.invariant-loop-i
invariant-loop-i l = (l.i-end ≡ intervals l.net) × ((j : ℕ) → j < l.i → StartsFirst (timeline_of l.ranks) j)
