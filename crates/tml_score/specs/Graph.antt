-- Serves the code: the orders of a net, by the points that they leave and those that they lead to.
use Rattle.std.specs.Prelude.{◌≡◌, ◌↔◌, ◌⊎◌, ℕ, ◌<◌, Bool, true, List, length, Option, Some, None}
use Rattle.std.specs.List.{Contains}
use Rattle.std.specs.List.Sorted.{IsPermutation}
use Rattle.net_orders.specs.Orders.{AreFixed}
use Rattle.net_orders.specs.declared.orders.Order.{Order}
use Rattle.net_core.specs.Atoms.{atoms_of}
use Rattle.net_core.specs.Nets.{PlainNet, link_at, points}
use Rattle.net_core.specs.declared.atom.Atom.{Atom}
use Rattle.point_index.specs.Index.{PlainIndex}
use Rattle.tml_score.specs.Ends.{point_at_end}
use Rattle.tml_score.specs.declared.ends.End.{End}
use Rattle.tml_score.specs.declared.ends.End.TheVariants.{From, To}
use Rattle.tml_score.specs.declared.graph.Graph.{Graph}

-- the orders that link k is
abbrev pub link_atoms : PlainNet → ℕ → List Atom
link_atoms net k = let link = link_at net k in atoms_of link.a link.rel link.b

-- the order is one of some that are of no link
abbrev pub IsFixedOrder : List Atom → Order → Type 0
IsFixedOrder fixed order = (order.link ≡ None) × Contains fixed order.atom

-- the order is one of those of link k
abbrev pub IsOrderOfLink : PlainNet → ℕ → Order → Type 0
IsOrderOfLink net k order = (order.link ≡ Some k) × Contains (link_atoms net k) order.atom

-- the order is one of those of some link
abbrev pub IsOfSome : PlainNet → Order → Type 0
IsOfSome net order = (k : ℕ) × (k < length net.links) × IsOrderOfLink net k order

-- whether an order counts: it is of no link, or of one that passes a test
abbrev pub counts : (ℕ → Bool) → Option ℕ → Bool
counts test None = true
counts test (Some k) = test k

-- the new list has the old orders, and those of a set
abbrev pub AddsOrders : (Order → Type 0) → List Order → List Order → Type 0
AddsOrders Listed old new = (order : Order) → Contains new order ↔ (Contains old order ⊎ Listed order)

-- the list has the orders that are of no link, and those of each link
abbrev pub HasAllOrders : PlainNet → List Atom → List Order → Type 0
HasAllOrders net fixed orders = (order : Order) → Contains orders order ↔ (IsFixedOrder fixed order ⊎ IsOfSome net order)

-- all orders of a net
pub record AreAllOrders (net : PlainNet) (orders : List Order) : Type 0 where
  pub fixed : List Atom
  pub are_fixed : AreFixed net fixed
  pub all : HasAllOrders net fixed orders

-- the orders of a graph by the point at an end
abbrev pub by_end : End → Graph → PlainIndex Order End
by_end From graph = graph.onward
by_end To graph = graph.back

-- the orders that have a point at the end that they are indexed by
abbrev pub AreOfPoint : PlainIndex Order End → ℕ → List Order → Type 0
AreOfPoint index point orders = (order : Order) → Contains orders order ↔ (Contains index.items order × (point_at_end index.by order ≡ point))

-- all orders of a net by the points that they leave, and by those that they lead to
pub record IsGraphOf (net : PlainNet) (graph : Graph) : Type 0 where
  pub orders : AreAllOrders net graph.onward.items
  pub leave : graph.onward.by ≡ From
  pub onward_points : graph.onward.points ≡ points net
  pub same : IsPermutation graph.onward.items graph.back.items
  pub lead : graph.back.by ≡ To
  pub back_points : graph.back.points ≡ points net
