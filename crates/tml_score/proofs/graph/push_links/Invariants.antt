use Rattle.std.proofs.Common.{◌≡◌, length}
use Rattle.tml_score.specs.Graph.{AddsOrders, IsOrderOfLink}
use Rattle.tml_score.proofs.GraphLaws.{OfFirst}
use Rattle.tml_score.proofs.graph.push_links.Given as goal

-- the orders of the links so far are put
abbrev pub invariant-loop-link : goal.invariant-loop-link
invariant-loop-link l = record {
  end : l.link-end ≡ length l.net.links;
  so_far : AddsOrders (OfFirst (IsOrderOfLink l.net) l.link) l.fn.orders.items l.orders.items;
}
