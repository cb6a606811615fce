use Rattle.std.proofs.Common.{◌≡◌, length}
use Rattle.std.specs.List.{All}
use Rattle.seconds_search.specs.Leaving.{ArePoints, IsVisit}
use Rattle.seconds_search.proofs.ordering.order_of.Given as goal

abbrev pub invariant-loop-point : goal.invariant-loop-point
invariant-loop-point l = record {
  seen : length l.seen.items ≡ l.points;
  path : All (IsVisit l.points (length l.leaving.before.items)) l.path.items;
  order : ArePoints l.points l.order.items;
}
