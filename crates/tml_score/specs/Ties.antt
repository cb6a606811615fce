-- Serves the code: ties: orders of points that are at one place.
use Rattle.std.specs.Prelude.{◌≡◌, List, length}
use Rattle.std.specs.List.{All, Contains}
use Rattle.net_orders.specs.declared.orders.Order.{Order}
use Rattle.net_core.specs.Nets.{points}
use Rattle.point_index.specs.Index.{PlainIndex}
use Rattle.tml_score.specs.Search.{Basis}
use Rattle.tml_score.specs.declared.ends.End.{End}
use Rattle.tml_score.specs.declared.ties.Ties.{Ties}

-- orders of the net
abbrev pub AreOrders : Basis → List Order → Type 0
AreOrders basis orders = All (Contains basis.graph.onward.items) orders

-- orders of the net, by a point of it
abbrev pub AreOrdersBy : Basis → PlainIndex Order End → Type 0
AreOrdersBy basis by = AreOrders basis by.items × (by.points ≡ points basis.net)

-- The ties are orders of the net, and each point of it has a root. Nothing else rests on which orders they are, and on which roots.
pub record AreTies (basis : Basis) (ties : Ties) : Type 0 where
  pub orders : AreOrders basis ties.orders.items
  pub onward : AreOrdersBy basis ties.onward
  pub back : AreOrdersBy basis ties.back
  pub roots : length ties.roots.items ≡ points basis.net
