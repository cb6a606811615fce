-- The timelines that keep a table.
use Rattle.std.specs.Prelude.{◌↔◌, ◌<◌, not}
use Rattle.net_core.specs.Atoms.{Satisfies}
use Rattle.net_core.specs.Relations.{Timeline}
use Rattle.net_core.specs.declared.atom.Atom.{Atom}
use Rattle.order_closure.specs.Cells.{order, strength}
use Rattle.order_closure.specs.Tables.{Denies, Keeps, IsClosed, Table, cell_at}

-- the atom that is true where this one is false
abbrev pub opposite : Atom → Atom
opposite atom = record { from = atom.to; to = atom.from; strict = not atom.strict }

-- The central law: in a closed table, where a cell is weaker than an atom some timeline keeps every cell and makes the atom false.
abbrev pub WeakerCellsCanFail : Type 0
WeakerCellsCanFail =
    (table : Table) (atom : Atom) → IsClosed table → atom.from < table.points → atom.to < table.points
    → strength (cell_at table atom.from atom.to) < strength (order atom.strict)
    → (t : Timeline) × Keeps table t × (Satisfies t atom → ⊥)

-- Some timeline keeps a closed table, and a cell denies an atom exactly where the atom is false of each that does.
pub record HasTimelines (table : Table) : Type 0 where
  pub some : (t : Timeline) × Keeps table t
  pub denies : (atom : Atom) → atom.from < table.points → atom.to < table.points
      → Denies (cell_at table atom.to atom.from) atom.strict ↔ ((t : Timeline) → Keeps table t → Satisfies t atom → ⊥)

abbrev pub ClosedTablesHaveTimelines : Type 0
ClosedTablesHaveTimelines = (table : Table) → IsClosed table → HasTimelines table
