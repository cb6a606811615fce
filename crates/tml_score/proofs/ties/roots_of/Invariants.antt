use Rattle.std.proofs.Common.{◌≡◌, length}
use Rattle.net_core.specs.Nets.{points}
use Rattle.net_orders.specs.Sequence.{ArePoints}
use Rattle.tml_score.proofs.ties.roots_of.Given as goal

abbrev pub invariant-loop-root : goal.invariant-loop-root
invariant-loop-root l = record {
  end : l.root-end ≡ points l.kept.net.now;
  size : length l.roots.items ≡ points l.kept.net.now;
  met : ArePoints (points l.kept.net.now) l.met.items;
}
