use Rattle.std.proofs.Common.{take}
use Rattle.std.specs.List.{All, Contains}
use Rattle.walks.specs.States.{StatesGrow, IsReached}
use Rattle.walks.proofs.graph.follow_edges.Given as goal

-- the edges so far are followed
abbrev pub invariant-loop-edge : goal.invariant-loop-edge
invariant-loop-edge l = record {
  grown : StatesGrow (Contains l.edges) l.head l.fn.states l.states;
  reached : All (IsReached l.states.entries l.head) (take l.edge-index l.edges);
}
