use Rattle.std.proofs.Common.{◌≡◌, ◌↔◌, length}
use Rattle.net_core.specs.Fits.{KeepsLink}
use Rattle.net_core.specs.Nets.{points}
use Rattle.net_core.specs.Relations.{Timeline}
use Rattle.order_closure.specs.Tables.{AreInRange, SatisfiesAll}
use Rattle.net_orders.proofs.Steps.{Below}
use Rattle.net_orders.proofs.orders.all_orders.Given as goal

-- the orders that are fixed, and those of the links so far
abbrev pub invariant-loop-link : goal.invariant-loop-link
invariant-loop-link l = record {
  end : l.link-end ≡ length l.net.links;
  in_range : AreInRange (points l.net) l.orders.items;
  exact : (t : Timeline) → SatisfiesAll l.orders.items t ↔ (SatisfiesAll l.fixed t × Below (λ k u. KeepsLink l.net u k) l.link t);
}
