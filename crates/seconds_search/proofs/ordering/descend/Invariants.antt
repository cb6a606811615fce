use Rattle.std.proofs.Common.{◌≡◌, length}
use Rattle.std.specs.List.{All}
use Rattle.seconds_search.specs.Leaving.{ArePoints, IsVisit}
use Rattle.seconds_search.proofs.ordering.descend.Given as goal

abbrev pub invariant-descent : goal.invariant-descent
invariant-descent l = record {
  seen : length l.seen ≡ length l.fn.seen;
  path : All (IsVisit (length l.fn.seen) (length l.leaving.before.items)) l.path.items;
  order : ArePoints (length l.fn.seen) l.order.items;
}
