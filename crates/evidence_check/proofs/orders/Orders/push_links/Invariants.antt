use Rattle.std.proofs.Common.{◌≡◌, ◌↔◌, ◌*◌, length}
use Rattle.net_core.specs.Nets.{points}
use Rattle.net_core.specs.Relations.{Timeline}
use Rattle.evidence_check.specs.Orders.{AreAtMost, AreOrdersWithin, KeepsLinksBelow, KeepsOrders}
use Rattle.evidence_check.proofs.orders.Orders.push_links.Given as goal

-- the orders so far are those of the links so far
abbrev pub invariant-loop-k : goal.invariant-loop-k
invariant-loop-k l = record {
  end : l.k-end ≡ length l.net.links;
  keeps : (t : Timeline) → KeepsOrders t l.self ↔ KeepsLinksBelow l.net l.k t;
  within : AreOrdersWithin (points l.net) l.self;
  few : AreAtMost (4 * l.k) l.self;
}
