-- Orders of a net among others.
use Rattle.std.proofs.Common.{◌≡◌, ◌↔◌, ◌∙◌, ℕ, ◌<◌, List, length, slice_index_or}
use Rattle.std.specs.List.{Contains}
use Rattle.std.specs.List.Sorted.{IsPermutation}
use Rattle.std.proofs.lemmas.List.Elements.{All-contains, All-contains_itself, All-get_or, All-weaker}
use Rattle.std.proofs.lemmas.List.Sorted.{All-permutation}
use Rattle.net_orders.specs.declared.orders.Order.{Order}
use Rattle.net_core.specs.Atoms.{IsInRange}
use Rattle.net_core.specs.Nets.{points}
use Rattle.point_index.specs.Index.{PlainIndex}
use Rattle.tml_score.specs.Ends.{point_at_end, far_end_of}
use Rattle.tml_score.specs.Search.{Basis, IsReady}
use Rattle.tml_score.specs.Ties.{AreOrders, AreOrdersBy}
use Rattle.tml_score.specs.Tree.{no_order}
use Rattle.tml_score.specs.declared.ends.End.{End}
use Rattle.tml_score.specs.declared.ends.End.TheVariants.{From, To}
use Rattle.tml_score.proofs.GraphLaws.{in_range}

-- both ends of an order are points of the net
near_range : (n : ℕ) (near : End) (o : Order) → IsInRange n o.atom → point_at_end near o < n
near_range n From o range = range.0
near_range n To o range = range.1

far_range : (n : ℕ) (near : End) (o : Order) → IsInRange n o.atom → far_end_of near o < n
far_range n From o range = range.1
far_range n To o range = range.0

module _ (basis : Basis) where
  -- the orders of a point are among all
  pub among_all : (R : Order → Type 0) (orders items : List Order) → AreOrders basis orders → ((o : Order) → Contains items o ↔ (Contains orders o × R o)) → AreOrders basis items
  among_all R orders items are exact = All-weaker (Contains items) (Contains basis.graph.onward.items) (λ o among. All-contains (Contains basis.graph.onward.items) orders o are ((exact o).0 among).0) items (All-contains_itself items)

  -- and so are all of them by a point
  pub orders_by : IsReady basis → (orders : List Order) (by : PlainIndex Order End) → AreOrders basis orders → by.points ≡ basis.table.points → IsPermutation orders by.items → AreOrdersBy basis by
  orders_by ready orders by are size moved = (All-permutation (Contains basis.graph.onward.items) orders by.items moved are, size ∙ ready.closure.size)

  module _ (ready : IsReady basis) where
    pub order_range : (o : Order) → Contains basis.graph.onward.items o → IsInRange (points basis.net) o.atom
    order_range o among = in_range basis.net ready.net basis.graph.onward.items ready.graph.orders o among

    pub near_within : (near : End) (o : Order) → Contains basis.graph.onward.items o → point_at_end near o < points basis.net
    near_within near o among = near_range (points basis.net) near o (order_range o among)

    pub far_within : (near : End) (o : Order) → Contains basis.graph.onward.items o → far_end_of near o < points basis.net
    far_within near o among = far_range (points basis.net) near o (order_range o among)

    -- the points of an order of a list
    pub range_at : (orders : List Order) (i : ℕ) → AreOrders basis orders → i < length orders → IsInRange (points basis.net) (slice_index_or orders i no_order).atom
    range_at orders i are lt = order_range (slice_index_or orders i no_order) (All-get_or (Contains basis.graph.onward.items) orders i no_order lt are)
