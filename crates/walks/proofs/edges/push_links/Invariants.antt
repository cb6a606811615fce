use Rattle.std.proofs.Common.{◌≡◌, length}
use Rattle.walks.specs.Edges.{AddsEdges}
use Rattle.walks.proofs.EdgeLaws.{Below, OverKept}
use Rattle.walks.proofs.edges.push_links.Given as goal

-- the links so far are put
abbrev pub invariant-loop-link : goal.invariant-loop-link
invariant-loop-link l = record {
  end : l.link-end ≡ length l.net.links;
  so_far : AddsEdges l.net (Below (OverKept l.keep) l.link) l.fn.edges.items l.edges.items;
}
