use Rattle.std.proofs.Common.{◌≡◌, length}
use Rattle.net_core.specs.Fits.{KeepsLink}
use Rattle.net_orders.specs.Steps.{AddsToTable}
use Rattle.net_orders.proofs.Steps.{Below}
use Rattle.net_orders.proofs.links.add_links.Given as goal

-- the links so far are added
abbrev pub invariant-loop-link : goal.invariant-loop-link
invariant-loop-link l = record {
  end : l.link-end ≡ length l.net.links;
  so_far : AddsToTable (Below (λ k t. KeepsLink l.net t k) l.link) l.fn.table l.table;
}
