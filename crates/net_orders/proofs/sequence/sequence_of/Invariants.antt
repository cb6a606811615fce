use Rattle.std.proofs.Common.{◌≡◌, length}
use Rattle.std.specs.List.{All}
use Rattle.net_orders.specs.Sequence.{IsSequence, IsVisit}
use Rattle.net_orders.proofs.sequence.sequence_of.Given as goal

abbrev pub invariant-loop-point : goal.invariant-loop-point
invariant-loop-point l = record {
  seen : length l.seen.items ≡ l.points;
  path : All (IsVisit l.leaving) l.path.items;
  sequence : IsSequence l.points l.orders l.sequence;
}
