-- Serves the code: a tree: orders that lead from the root of each place to its points, or from these back to it.
use Rattle.std.specs.Prelude.{◌≡◌, ◌⊎◌, ℕ, ◌+◌, ◌<◌, ◌≤◌, Bool, true, false, List, length, Option, Some, None, slice_index, slice_index_or, slice_set}
use Rattle.std.specs.List.{All, Contains}
use Rattle.net_orders.specs.Orders.{is_of}
use Rattle.net_orders.specs.declared.orders.Order.{Order}
use Rattle.net_core.specs.Atoms.{Satisfies}
use Rattle.net_core.specs.Nets.{points}
use Rattle.net_core.specs.Relations.{Timeline}
use Rattle.tml_score.specs.Ends.{point_at_end, far_end_of}
use Rattle.tml_score.specs.Graph.{counts}
use Rattle.tml_score.specs.Search.{Basis, is_kept}
use Rattle.tml_score.specs.declared.ends.End.{End}
use Rattle.tml_score.specs.declared.ends.End.TheVariants.{From, To}
use Rattle.tml_score.specs.declared.tree.Tree.{Tree}

-- what is read past the end of a list of orders
abbrev pub no_order : Order
no_order = record { atom = record { from = 0; to = 0; strict = false }; link = None }

abbrev pub order_at : List Order → ℕ → Order
order_at orders i = slice_index_or orders i no_order

-- the first n orders of a list hold
abbrev pub HoldBefore : Timeline → List Order → ℕ → Type 0
HoldBefore t orders n = (i : ℕ) → i < n → i < length orders → Satisfies t (order_at orders i).atom

-- a point is no earlier than the root, or where orders lead back to it no later
abbrev pub IsBeyond : End → Timeline → ℕ → ℕ → Type 0
IsBeyond From t root point = t root ≤ t point
IsBeyond To t root point = t point ≤ t root

-- a point is beyond its root where the first n orders hold
abbrev pub IsBeyondRoot : End → List ℕ → List Order → ℕ → ℕ → Type 0
IsBeyondRoot near roots orders n point = (t : Timeline) → HoldBefore t orders n → IsBeyond near t (slice_index roots point) point

-- whether an order is of no link, or of one in use
abbrev pub is_used : List Bool → Order → Bool
is_used in_use o = counts (λ k. slice_index_or in_use k false) o.link

-- an order of the net that is kept and in use
pub record IsBranch (basis : Basis) (in_use : List Bool) (o : Order) : Type 0 where
  pub of_net : Contains basis.graph.onward.items o
  pub kept : is_kept basis o ≡ true
  pub used : is_used in_use o ≡ true

-- Each order of a tree leads to a point that it joins with its root, by this order and those before it.
pub record IsTree (basis : Basis) (roots : List ℕ) (near : End) (tree : Tree) : Type 0 where
  pub end : tree.near ≡ near
  pub turns : length tree.turns.items ≡ points basis.net
  pub in_use : length tree.in_use.items ≡ length basis.net.links
  pub branches : All (IsBranch basis tree.in_use.items) tree.orders.items
  pub joined : (i : ℕ) → i < length tree.orders.items → IsBeyondRoot near roots tree.orders.items (i + 1) (far_end_of near (order_at tree.orders.items i))

-- a point is a root, or one of the first n orders of the tree leads to it
abbrev pub IsCovered : List ℕ → Tree → ℕ → ℕ → Type 0
IsCovered roots tree n point =
    (slice_index roots point ≡ point) ⊎ ((i : ℕ) × (i < n) × (i < length tree.orders.items) × (far_end_of tree.near (order_at tree.orders.items i) ≡ point))

-- none of the first n orders of a tree is of this link
abbrev pub IsBefore : ℕ → Tree → ℕ → Type 0
IsBefore link tree n = (basis : Basis) (roots : List ℕ) (near : End) → IsTree basis roots near tree → (i : ℕ) → i < n → is_of link (order_at tree.orders.items i) ≡ false

-- A kept order leads from a point that is covered to another one of its place.
pub record LeadsOn (basis : Basis) (roots : List ℕ) (tree : Tree) (o : Order) : Type 0 where
  pub covered : IsCovered roots tree (length tree.orders.items) (point_at_end tree.near o)
  pub one_root : slice_index roots (point_at_end tree.near o) ≡ slice_index roots (far_end_of tree.near o)
  pub kept : is_kept basis o ≡ true

-- the marks of links in use, with that of an order
abbrev pub with_link : List Bool → Option ℕ → List Bool
with_link in_use None = in_use
with_link in_use (Some k) = slice_set in_use k true

-- the same, but that a link is not kept
abbrev pub without : Basis → ℕ → Basis
without basis link = record { net = basis.net; table = basis.table; graph = basis.graph; keep = slice_set basis.keep link false }

-- what is a tree stays one without a link
abbrev pub IsCut : ℕ → Tree → Tree → Type 0
IsCut link old new = (basis : Basis) (roots : List ℕ) (near : End) → IsTree basis roots near old → IsTree (without basis link) roots near new
