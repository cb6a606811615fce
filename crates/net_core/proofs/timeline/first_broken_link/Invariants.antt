use Rattle.std.proofs.Common.{◌≡◌, ℕ, ◌<◌, length}
use Rattle.net_core.specs.Fits.{KeepsLink}
use Rattle.net_core.specs.Ranks.{timeline_of}
use Rattle.net_core.proofs.timeline.first_broken_link.Given as goal

-- those before it hold
abbrev pub invariant-loop-k : goal.invariant-loop-k
invariant-loop-k l = (l.k-end ≡ length l.net.links) × ((j : ℕ) → j < l.k → KeepsLink l.net (timeline_of l.ranks) j)
