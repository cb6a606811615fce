use Rattle.std.proofs.Common.{◌≡◌, ℕ, ◌<◌, Some}
use Rattle.net_core.specs.Fits.{FollowsNumbers}
use Rattle.net_core.specs.Nets.{points, lower}
use Rattle.net_core.specs.Ranks.{timeline_of}
use Rattle.net_core.proofs.timeline.first_broken_in_row.Given as goal

-- those before it are in order
abbrev pub invariant-loop-to : goal.invariant-loop-to
invariant-loop-to l = (l.to-end ≡ points l.net) × ((j : ℕ) → j < l.to → FollowsNumbers (Some l.upper) (lower l.net j) l.rank (timeline_of l.ranks j))
