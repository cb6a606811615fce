-- A link holds of seconds where they keep each order of its relation.
use Rattle.std.proofs.Common.{◌↔◌, ℤ, List}
use Rattle.std.specs.List.{All}
use Rattle.std.proofs.lemmas.List.Elements.{All-from_recursion, recursion_from_All}
use Rattle.net_core.specs.Atoms.{atom_between, orders_of, points_of}
use Rattle.net_core.specs.declared.atom.PairOrder.{PairOrder}
use Rattle.net_core.specs.declared.net.NetLink.{NetLink}
use Rattle.net_core.proofs.AtomLaws.{all_mapped}
use Rattle.seconds_core.specs.Orders.{KeepsOrder}
use Rattle.seconds_core.specs.Placed.{KeepsLinkInSeconds}
use Rattle.seconds_core.proofs.Relations.{relation_by_orders}

pub orders_say_the_link : (seconds : List ℤ) (link : NetLink) → All (λ order. KeepsOrder seconds (atom_between (points_of link.a) (points_of link.b) order)) (orders_of link.rel) ↔ KeepsLinkInSeconds seconds link
orders_say_the_link seconds link =
    let between = atom_between (points_of link.a) (points_of link.b) in
    let Kept = λ (order : PairOrder). KeepsOrder seconds (between order) in
    let mapped = all_mapped (KeepsOrder seconds) between (orders_of link.rel) in
    let relation = relation_by_orders seconds link in
    (λ all. relation.1 (mapped.0 (recursion_from_All Kept (orders_of link.rel) all)), λ keeps. All-from_recursion Kept (orders_of link.rel) (mapped.1 (relation.0 keeps)))
