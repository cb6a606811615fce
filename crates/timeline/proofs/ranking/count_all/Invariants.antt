use Rattle.std.proofs.Common.{◌≡◌, ℕ, ◌<◌}
use Rattle.std.specs.List.{All, Contains}
use Rattle.order_closure.specs.Tables.{cell_at}
use Rattle.timeline.specs.Ranking.{IsCounted, counted_at}
use Rattle.timeline.proofs.ranking.count_all.Given as goal

abbrev pub invariant-loop-point : goal.invariant-loop-point
invariant-loop-point l = record {
  end : l.point-end ≡ l.closed.points;
  right : All (IsCounted l.closed.points (cell_at l.closed)) l.all.items;
  whole : (p : ℕ) → p < l.point → Contains l.all.items (counted_at l.closed.points (cell_at l.closed) p);
}
