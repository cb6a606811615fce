-- Some points of a table: what its cells say of these alone.
use Rattle.std.specs.Prelude.{ℕ, ◌<◌, ◌↔◌, List}
use Rattle.std.specs.List.{All, Contains}
use Rattle.net_core.specs.Relations.{Timeline}
use Rattle.order_closure.specs.Cells.{CellSays}
use Rattle.order_closure.specs.Tables.{IsClosed, Keeps, Table, cell_at}

-- what the cells of these points say of each other is true of a timeline
abbrev pub KeepsAmong : Table → List ℕ → Timeline → Type 0
KeepsAmong table chosen t = (i j : ℕ) → Contains chosen i → Contains chosen j → CellSays (cell_at table i j) (t i) (t j)

-- two timelines have these points in the same order
abbrev pub OrderAlike : List ℕ → Timeline → Timeline → Type 0
OrderAlike chosen s t = (i j : ℕ) → Contains chosen i → Contains chosen j → (s i < s j) ↔ (t i < t j)

-- The law: whatever points of a closed table are chosen, an order of them that keeps the cells among them is their order in some timeline that keeps all cells. So what these points can do, their cells alone say.
abbrev pub ChosenPointsDecide : Type 0
ChosenPointsDecide =
    (table : Table) (chosen : List ℕ) (s : Timeline) → IsClosed table → All (λ i. i < table.points) chosen → KeepsAmong table chosen s
    → (t : Timeline) × Keeps table t × OrderAlike chosen s t
