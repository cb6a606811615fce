use Rattle.std.proofs.Common.{None}
use Rattle.tml_score.specs.Graph.{AddsOrders}
use Rattle.tml_score.proofs.GraphLaws.{IsAt, OfFirst}
use Rattle.tml_score.proofs.graph.push_fixed.Given as goal

-- the orders so far are put
abbrev pub invariant-loop-atom : goal.invariant-loop-atom
invariant-loop-atom l = AddsOrders (OfFirst (IsAt l.fixed None) l.atom-index) l.fn.orders.items l.orders.items
