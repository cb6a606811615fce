use Rattle.std.proofs.Common.{take}
use Rattle.std.specs.List.{All}
use Rattle.walks.specs.Graphs.{IsDateEdge, date_edge}
use Rattle.walks.specs.States.{StatesGrow, IsReached}
use Rattle.walks.specs.declared.dates.Date.{Date}
use Rattle.walks.proofs.graph.follow_dates.Given as goal

-- the steps to the points so far are followed
abbrev pub invariant-loop-lower : goal.invariant-loop-lower
invariant-loop-lower l = record {
  grown : StatesGrow (IsDateEdge l.upper l.lowers) l.head l.fn.states l.states;
  reached : All (λ (lower : Date). IsReached l.states.entries l.head (date_edge l.upper lower)) (take l.lower-index l.lowers);
}
