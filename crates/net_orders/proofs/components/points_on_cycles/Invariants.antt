use Rattle.std.proofs.Common.{length}
use Rattle.net_orders.specs.Sequence.{ArePoints}
use Rattle.net_orders.proofs.components.points_on_cycles.Given as goal

abbrev pub invariant-loop-order : goal.invariant-loop-order
invariant-loop-order l = ArePoints (length l.components) l.found.items
