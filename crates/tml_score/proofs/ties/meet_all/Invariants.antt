use Rattle.std.proofs.Common.{◌≡◌, length}
use Rattle.net_core.specs.Nets.{points}
use Rattle.net_orders.specs.Sequence.{ArePoints}
use Rattle.tml_score.proofs.ties.meet_all.Given as goal

abbrev pub invariant-loop-order : goal.invariant-loop-order
invariant-loop-order l = record {
  size : length l.roots ≡ points l.kept.net.now;
  met : ArePoints (points l.kept.net.now) l.met.items;
}
