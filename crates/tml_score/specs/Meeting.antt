-- Serves the code: a search from two points that are at one place.
use Rattle.std.specs.Prelude.{◌≡◌, ◌≢◌, ◌⊎◌, ℕ, Bool, true, false, ⊤, List, [], ◌∷◌, ◌++◌, Result, Ok, Err}
use Rattle.std.specs.List.{All, Contains}
use Rattle.clash.specs.Walks.{AlwaysWith}
use Rattle.net_orders.specs.declared.orders.Order.{Order}
use Rattle.net_core.specs.Nets.{points}
use Rattle.lists.specs.declared.memory.Memory.{Memory}
use Rattle.order_closure.specs.Tables.{cell_at}
use Rattle.order_closure.specs.declared.cell.Cell.TheVariants.{Free}
use Rattle.tml_score.specs.Reached.{PlainReached}
use Rattle.tml_score.specs.Ends.{point_at_end, far_end_of, opposite}
use Rattle.tml_score.specs.Search.{Basis, ExtendsReached, IsLed, IsRemainingWay, Rest}
use Rattle.tml_score.specs.declared.ends.End.{End}
use Rattle.tml_score.specs.declared.ends.End.TheVariants.{From, To}
use Rattle.tml_score.specs.declared.search.AskedOrder.{AskedOrder}

-- the last point is no earlier than this one, by the other links
abbrev pub IsLedTo : Basis → AskedOrder → ℕ → Type 0
IsLedTo basis asked x = AlwaysWith basis.net (Rest basis asked) false x asked.order.to

-- the closure puts a point at one place with the first
abbrev pub IsWith : Basis → AskedOrder → ℕ → Type 0
IsWith basis asked x = (cell_at basis.table x asked.order.from ≢ Free) × (cell_at basis.table asked.order.from x ≢ Free)

-- what is true of the points of a side: where the search goes on that they are no earlier than the first, and where it goes back that they are no later than the last
abbrev pub IsOn : End → Basis → AskedOrder → ℕ → Type 0
IsOn From = IsLed
IsOn To = IsLedTo

-- One side of a search: points of which something is true.
pub record IsSide (basis : Basis) (IsTrue : ℕ → Type 0) (reached : PlainReached) : Type 0 where
  pub room : reached.room ≡ points basis.net
  pub all : All IsTrue reached.points

-- no point is on both sides
abbrev pub ShareNoPoint : PlainReached → PlainReached → Type 0
ShareNoPoint own other = (x : ℕ) → Contains own.points x → Contains other.points x → ⊥

-- a point is on a side, or not at one place with the first
abbrev pub IsPassedAt : Basis → AskedOrder → List ℕ → ℕ → Type 0
IsPassedAt basis asked xs x = Contains xs x ⊎ (IsWith basis asked x → ⊥)

-- a point is on the other side, or it is passed and at most it was added
abbrev pub VisitsPoint : Basis → AskedOrder → ℕ → PlainReached → PlainReached → PlainReached → Result Bool Memory → Type 0
VisitsPoint basis asked x other old new (Ok true) = Contains other.points x × (new ≡ old)
VisitsPoint basis asked x other old new (Ok false) =
    ((new ≡ old) ⊎ (new ≡ record { points = old.points ++ x ∷ []; room = old.room })) × IsPassedAt basis asked new.points x × (Contains other.points x → ⊥)
VisitsPoint basis asked x other old new (Err e) = ⊤

-- a side went on from a point: to one of which the same is true as of the other side, or all ways from there are passed
abbrev pub GoesFrom : Basis → AskedOrder → End → ℕ → PlainReached → PlainReached → PlainReached → Result Bool Memory → Type 0
GoesFrom basis asked near x other old new (Ok true) = IsSide basis (IsOn near basis asked) new × ((y : ℕ) × IsOn near basis asked y × IsOn (opposite near) basis asked y)
GoesFrom basis asked near x other old new (Ok false) =
    IsSide basis (IsOn near basis asked) new × ExtendsReached old new × ShareNoPoint new other × ((o : Order) → IsRemainingWay basis asked o → point_at_end near o ≡ x → IsPassedAt basis asked new.points (far_end_of near o))
GoesFrom basis asked near x other old new (Err e) = ⊤
