use Rattle.std.proofs.Common.{◌≡◌, ℕ, ◌<◌, length}
use Rattle.net_core.specs.Walks.{Kept}
use Rattle.clash.specs.Minimal.{IsMarkedWalk, IsSpared}
use Rattle.clash.proofs.closed_walk.thin.Given as goal

-- the links so far that the walk still goes over are needed
abbrev pub invariant-loop-link : goal.invariant-loop-link
invariant-loop-link l = record {
  end : l.link-end ≡ length l.net.links;
  closed : IsMarkedWalk l.net l.closed;
  spared : IsSpared l.net (Kept l.closed.over.items) l.needed;
  so_far : (k : ℕ) → k < l.link → Kept l.closed.over.items k → IsSpared l.net (Kept l.closed.over.items) k;
}
