-- Serves the code: whether an order of a link follows from the other links that are kept.
use Rattle.std.specs.Prelude.{◌≡◌, ◌≢◌, ◌⊎◌, ℕ, ◌<◌, ◌≤◌, ◌==◌, Bool, true, false, not, ◌&&◌, ⊤, List, ◌++◌, length, slice_index_or, IfSome, Result, Ok, Err}
use Rattle.std.specs.List.{All, Contains}
use Rattle.clash.specs.Closures.{IsClosureOf}
use Rattle.clash.specs.Walks.{AlwaysWith}
use Rattle.net_orders.specs.declared.orders.Order.{Order}
use Rattle.net_core.specs.Atoms.{Satisfies}
use Rattle.net_core.specs.Clashes.{Others}
use Rattle.net_core.specs.Entailment.{HasTimeline}
use Rattle.net_core.specs.Fits.{Fits, FitsWith}
use Rattle.net_core.specs.Nets.{IsNet, PlainNet, points}
use Rattle.net_core.specs.Relations.{Timeline}
use Rattle.net_core.specs.Walks.{Kept}
use Rattle.lists.specs.declared.memory.Memory.{Memory}
use Rattle.order_closure.specs.Cells.{order, strength}
use Rattle.order_closure.specs.Tables.{Table, cell_at}
use Rattle.order_closure.specs.declared.cell.Cell.TheVariants.{Free}
use Rattle.tml_score.specs.Graph.{IsGraphOf, counts, link_atoms}
use Rattle.tml_score.specs.Reached.{PlainReached}
use Rattle.tml_score.specs.declared.graph.Graph.{Graph}
use Rattle.tml_score.specs.declared.reached.Sides.{Sides}
use Rattle.tml_score.specs.declared.search.AskedOrder.{AskedOrder}
use Rattle.tml_score.specs.declared.search.KeptLinks.{KeptLinks}

-- what a search goes by: a net, its closure, its orders, and which of its links are kept
pub record Basis : Type 0 where
  pub net : PlainNet
  pub table : Table
  pub graph : Graph
  pub keep : List Bool

abbrev pub basis_of : KeptLinks → Basis
basis_of kept = record { net = kept.net.now; table = kept.table.now; graph = kept.graph.now; keep = kept.keep.now }

-- The links that are kept say the same as all, and some timeline fits.
pub record IsReady (basis : Basis) : Type 0 where
  pub net : IsNet basis.net
  pub fits : HasTimeline basis.net
  pub closure : IsClosureOf basis.net basis.table
  pub graph : IsGraphOf basis.net basis.graph
  pub marks : length basis.keep ≡ length basis.net.links
  pub same : (t : Timeline) → FitsWith basis.net (Kept basis.keep) t → Fits basis.net t

-- an order of a link that is kept
pub record IsAsked (basis : Basis) (asked : AskedOrder) : Type 0 where
  pub link : asked.link < length basis.net.links
  pub kept : Kept basis.keep asked.link
  pub order : Contains (link_atoms basis.net asked.link) asked.order

-- the other links that are kept
abbrev pub Rest : Basis → AskedOrder → ℕ → Type 0
Rest basis asked = Others (Kept basis.keep) asked.link

-- whether a link is another one that is kept
abbrev pub is_other : List Bool → ℕ → ℕ → Bool
is_other keep link k = not (k == link) && slice_index_or keep k false

-- whether an order is of no link, or of another one that is kept
abbrev pub remains : Basis → AskedOrder → Order → Bool
remains basis asked o = counts (is_other basis.keep asked.link) o.link

-- whether an order is of no link, or of one that is kept
abbrev pub is_kept : Basis → Order → Bool
is_kept basis o = counts (λ k. slice_index_or basis.keep k false) o.link

-- there is a mark for the link of an order, if it is of one
abbrev pub AreMarks : Basis → Order → Type 0
AreMarks basis o = IfSome o.link (λ k. k < length basis.keep)

-- an order that a step may take
abbrev pub IsRemainingWay : Basis → AskedOrder → Order → Type 0
IsRemainingWay basis asked o = Contains basis.graph.onward.items o × (remains basis asked o ≡ true)

-- it leads to a point that the closure puts at or before the last one
abbrev pub ComesNear : Basis → AskedOrder → Order → Type 0
ComesNear basis asked o = cell_at basis.table o.atom.to asked.order.to ≢ Free

-- it leads to the last point, or to one that the closure doesn't put at or before the first
abbrev pub LeadsOut : Basis → AskedOrder → Order → Type 0
LeadsOut basis asked o = (o.atom.to ≡ asked.order.to) ⊎ (cell_at basis.table o.atom.to asked.order.from ≡ Free)

-- it leads out, and from there the closure gives the order that is asked for
abbrev pub IsEnough : Basis → AskedOrder → Order → Type 0
IsEnough basis asked o =
    LeadsOut basis asked o × (strength (order (asked.order.strict && not o.atom.strict)) ≤ strength (cell_at basis.table o.atom.to asked.order.to))

-- the first point is no later than this one, by the other links
abbrev pub IsLed : Basis → AskedOrder → ℕ → Type 0
IsLed basis asked x = AlwaysWith basis.net (Rest basis asked) false asked.order.from x

-- A point that a search goes through: it is at one place with the first one, and isn't the last.
pub record IsThrough (basis : Basis) (asked : AskedOrder) (x : ℕ) : Type 0 where
  pub led : IsLed basis asked x
  pub back : cell_at basis.table x asked.order.from ≢ Free
  pub not_last : x ≢ asked.order.to

abbrev pub AreThrough : Basis → AskedOrder → List ℕ → Type 0
AreThrough basis asked xs = All (IsThrough basis asked) xs

-- a search: its points are those of the net
pub record IsSearch (basis : Basis) (asked : AskedOrder) (reached : PlainReached) : Type 0 where
  pub room : reached.room ≡ points basis.net
  pub through : AreThrough basis asked reached.points

-- some points were put last
abbrev pub ExtendsReached : PlainReached → PlainReached → Type 0
ExtendsReached old new = (more : List ℕ) × (new.points ≡ old.points ++ more)

-- a way isn't enough, and it leads out or to a point that was reached
abbrev pub IsPassed : Basis → AskedOrder → List ℕ → Order → Type 0
IsPassed basis asked xs o = (IsEnough basis asked o → ⊥) × (LeadsOut basis asked o ⊎ Contains xs o.atom.to)

-- some way is enough, from a point that the search goes through
abbrev pub HasEnough : Basis → AskedOrder → Type 0
HasEnough basis asked = (o : Order) × IsRemainingWay basis asked o × IsLed basis asked o.atom.from × IsEnough basis asked o

-- a search went on, over ways of a set: one of them is enough, or all are passed
abbrev pub GoesOn : Basis → AskedOrder → (Order → Type 0) → PlainReached → PlainReached → Result Bool Memory → Type 0
GoesOn basis asked Listed old new (Ok true) = HasEnough basis asked × (new.room ≡ points basis.net)
GoesOn basis asked Listed old new (Ok false) = IsSearch basis asked new × ExtendsReached old new × ((o : Order) → IsRemainingWay basis asked o → Listed o → IsPassed basis asked new.points o)
GoesOn basis asked Listed old new (Err e) = ⊤

-- the order always holds with the other links, or it can fail
abbrev pub Decides : Basis → AskedOrder → Bool → Type 0
Decides basis asked true = AlwaysWith basis.net (Rest basis asked) asked.order.strict asked.order.from asked.order.to
Decides basis asked false = (t : Timeline) × FitsWith basis.net (Rest basis asked) t × (Satisfies t asked.order → ⊥)

-- both sides of a search have room for all points
abbrev pub HaveRoom : Basis → Sides → Type 0
HaveRoom basis sides = (sides.onward.room ≡ points basis.net) × (sides.back.room ≡ points basis.net)
