use Rattle.std.proofs.Common.{◌≡◌, length}
use Rattle.net_core.specs.Nets.{points}
use Rattle.tml_score.specs.Reducing.{AreDecided}
use Rattle.tml_score.specs.Trees.{AreTrees}
use Rattle.tml_score.proofs.reducing.marks.Given as goal

-- the links so far
abbrev pub invariant-loop-link : goal.invariant-loop-link
invariant-loop-link l = record {
  end : l.link-end ≡ length l.net.links;
  room : (l.sides.onward.room ≡ points l.net) × (l.sides.back.room ≡ points l.net);
  trees : AreTrees (record { net = l.net; table = l.table; graph = l.graph; keep = l.keep.items }) l.trees;
  so_far : AreDecided l.net l.link l.keep.items;
}
