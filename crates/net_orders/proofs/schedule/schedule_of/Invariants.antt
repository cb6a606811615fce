use Rattle.std.proofs.Common.{◌<◌, ◌≡◌, length}
use Rattle.std.specs.List.{All}
use Rattle.net_orders.specs.Sequence.{ArePoints}
use Rattle.net_orders.proofs.schedule.schedule_of.Given as goal

abbrev pub invariant-loop-number : goal.invariant-loop-number
invariant-loop-number l = record {
  size : length l.components.items ≡ l.points;
  met : ArePoints l.points l.met.items;
  inward : All (λ k. k < length l.orders) l.inward.items;
  numbers : All (λ k. k < length l.orders) l.numbers.items;
}
