use Rattle.std.proofs.Common.{◌≡◌, map, take}
use Rattle.seconds_search.specs.Edges.{edge_line}
use Rattle.seconds_search.proofs.cycle.lines_of.Given as goal

abbrev pub invariant-loop-number : goal.invariant-loop-number
invariant-loop-number l = l.lines.items ≡ map (edge_line l.edges) (take l.number-index l.numbers)
