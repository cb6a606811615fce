use Rattle.std.proofs.Common.{◌≡◌, ℕ, ◌<◌, length}
use Rattle.net_core.specs.Nets.{link_at}
use Rattle.seconds_core.specs.Placed.{KeepsLinkInSeconds}
use Rattle.seconds_check.proofs.placing.first_broken.Given as goal

-- those before it hold
abbrev pub invariant-loop-link : goal.invariant-loop-link
invariant-loop-link l = (l.link-end ≡ length l.timed.net.links) × ((j : ℕ) → j < l.link → KeepsLinkInSeconds l.seconds (link_at l.timed.net j))
