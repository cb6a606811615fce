-- Serves the code: the ends of an order.
use Rattle.std.specs.Prelude.{ℕ}
use Rattle.net_orders.specs.declared.orders.Order.{Order}
use Rattle.tml_score.specs.declared.ends.End.{End}
use Rattle.tml_score.specs.declared.ends.End.TheVariants.{From, To}

-- the point at an end of an order
abbrev pub point_at_end : End → Order → ℕ
point_at_end From order = order.atom.from
point_at_end To order = order.atom.to

-- the point at the other end
abbrev pub far_end_of : End → Order → ℕ
far_end_of From order = order.atom.to
far_end_of To order = order.atom.from

-- the other end
abbrev pub opposite : End → End
opposite From = To
opposite To = From
