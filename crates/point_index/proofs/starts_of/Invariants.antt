use Rattle.std.proofs.Common.{◌≡◌, ◌+◌}
use Rattle.point_index.proofs.Starts.{AreCuts}
use Rattle.point_index.proofs.starts_of.Given as goal

-- the places of the points so far
abbrev pub invariant-loop-point : goal.invariant-loop-point
invariant-loop-point g l = record {
  end : l.point-end ≡ l.points + 1;
  cuts : AreCuts (g.P.PointOf.point_of l.by) l.items l.point-counter l.starts.items;
}
