use Rattle.std.proofs.Common.{◌≡◌, get_or, length}
use Rattle.order_closure.specs.Tables.{cell_at}
use Rattle.timeline.proofs.Raised.{AreRankedTo}
use Rattle.timeline.proofs.Turns.{point_at}
use Rattle.timeline.proofs.ranking.rank_all.Given as goal

abbrev pub invariant-loop-turn : goal.invariant-loop-turn
invariant-loop-turn l = record {
  size : length l.ranks ≡ l.closed.points;
  ranked : AreRankedTo l.closed.points (cell_at l.closed) (point_at l.turns) l.turn-index (λ q. get_or l.ranks q 0);
}
