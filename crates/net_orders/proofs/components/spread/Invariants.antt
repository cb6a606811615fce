use Rattle.std.proofs.Common.{◌<◌, ◌≡◌, length}
use Rattle.std.specs.List.{All}
use Rattle.net_orders.specs.Sequence.{ArePoints, IsOrderNumber}
use Rattle.net_orders.proofs.Measures.{numbers_left}
use Rattle.net_orders.proofs.components.spread.Given as goal

abbrev pub invariant-loop-next : goal.invariant-loop-next
invariant-loop-next l = record {
  next : IsOrderNumber (length l.entering.before.items) l.next;
  size : length l.components ≡ length l.fn.components;
  met : ArePoints (length l.components) l.met.items;
  inward : All (λ k. k < length l.turned) l.inward.items;
}

-- the numbers of a list fall
abbrev pub decreases-loop-next : goal.decreases-loop-next
decreases-loop-next l = numbers_left l.next
