use Rattle.std.proofs.Common.{◌<◌, ◌≡◌, length}
use Rattle.std.specs.List.{All}
use Rattle.net_orders.specs.Sequence.{ArePoints}
use Rattle.net_orders.proofs.components.flood.Given as goal

abbrev pub invariant-flood : goal.invariant-flood
invariant-flood l = record {
  size : length l.components ≡ length l.fn.components;
  met : ArePoints (length l.components) l.met.items;
  inward : All (λ k. k < length l.turned) l.inward.items;
}
