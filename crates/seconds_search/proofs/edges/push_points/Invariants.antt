use Rattle.std.proofs.Common.{◌≡◌, ℕ, ◌*◌, ◌<◌}
use Rattle.net_core.specs.Nets.{points}
use Rattle.seconds_search.specs.Edges.{CoversAll, EdgesGrow, IsOfPoint}
use Rattle.seconds_search.proofs.edges.push_points.Given as goal

-- the lines so far are covered
abbrev pub invariant-loop-point : goal.invariant-loop-point
invariant-loop-point l = record {
  end : l.point-end ≡ points l.timed.net;
  grows : EdgesGrow l.timed l.fn.edges.items l.edges.items (2 * l.point);
  covers : (k : ℕ) → k < l.point → CoversAll l.timed l.edges.items (IsOfPoint k);
}
