use Rattle.std.proofs.Common.{◌≡◌, length, Some}
use Rattle.net_core.specs.Atoms.{atoms_in}
use Rattle.tml_score.specs.Graph.{AddsOrders}
use Rattle.tml_score.proofs.GraphLaws.{IsAt, OfFirst}
use Rattle.tml_score.proofs.graph.push_link.Given as goal

-- the orders so far are put
abbrev pub invariant-loop-number : goal.invariant-loop-number
invariant-loop-number l = record {
  end : l.number-end ≡ length (atoms_in l.atoms);
  so_far : AddsOrders (OfFirst (IsAt (atoms_in l.atoms) (Some l.link)) l.number) l.fn.orders.items l.orders.items;
}
