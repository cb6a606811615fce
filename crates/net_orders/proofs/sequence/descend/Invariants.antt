use Rattle.std.proofs.Common.{length}
use Rattle.std.specs.List.{All}
use Rattle.net_orders.specs.Sequence.{IsSequence, IsVisit}
use Rattle.net_orders.proofs.sequence.descend.Given as goal

abbrev pub invariant-descent : goal.invariant-descent
invariant-descent l = record {
  path : All (IsVisit l.leaving) l.path.items;
  sequence : IsSequence (length l.leaving.last.items) l.orders l.sequence;
}
