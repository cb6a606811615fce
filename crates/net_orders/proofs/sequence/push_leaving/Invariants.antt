use Rattle.std.proofs.Common.{◌<◌, length}
use Rattle.std.specs.List.{All}
use Rattle.net_orders.specs.Sequence.{IsOrderNumber}
use Rattle.net_orders.proofs.Measures.{numbers_left}
use Rattle.net_orders.proofs.sequence.push_leaving.Given as goal

abbrev pub invariant-loop-next : goal.invariant-loop-next
invariant-loop-next l = record {
  next : IsOrderNumber (length l.leaving.before.items) l.next;
  numbers : All (λ k. k < length l.leaving.before.items) l.numbers.items;
}

-- the numbers of a list fall
abbrev pub decreases-loop-next : goal.decreases-loop-next
decreases-loop-next l = numbers_left l.next
