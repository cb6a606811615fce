-- Tables of the orders of points, and what they stand for.
use Rattle.std.specs.Prelude.{◌≡◌, ℕ, ◌<◌, ◌≤◌, ◌↔◌, ◌==◌, ⊤, Bool, true, false, if◌then◌else◌, List, [], map, slice_index_or}
use Rattle.std.specs.List.{All, range_with_len}
use Rattle.net_core.specs.Atoms.{IsInOrder, IsInRange, Satisfies}
use Rattle.net_core.specs.Limits.{max_points}
use Rattle.net_core.specs.Relations.{Timeline}
use Rattle.net_core.specs.declared.atom.Atom.{Atom}
use Rattle.order_closure.specs.Cells.{CellSays, joined, order, strength}
use Rattle.order_closure.specs.declared.cell.Cell.{Cell}
use Rattle.order_closure.specs.declared.cell.Cell.TheVariants.{Free, Weak, Strict}

-- the most points of a table: those of a net
abbrev pub max_table_points : ℕ
max_table_points = max_points

-- a number of points, and the rows of cells: the cell j of row i says how point i is before point j
pub record Table : Type 0 where
  pub points : ℕ
  pub rows : List (List Cell)

abbrev pub cell_at : Table → ℕ → ℕ → Cell
cell_at table i j = slice_index_or (slice_index_or table.rows i []) j Free

-- the table of these cells
abbrev pub table_of : ℕ → (ℕ → ℕ → Cell) → Table
table_of n cell = record { points = n; rows = map (λ i. map (λ j. cell i j) (range_with_len 0 n)) (range_with_len 0 n) }

-- the cells of a new table: each point is with itself, and nothing else is known
abbrev pub new_cell : ℕ → ℕ → Cell
new_cell i j = if i == j then Weak else Free

-- what each cell says is true of a timeline
abbrev pub AreCellsKept : ℕ → (ℕ → ℕ → Cell) → Timeline → Type 0
AreCellsKept n cell t = (i j : ℕ) → i < n → j < n → CellSays (cell i j) (t i) (t j)

abbrev pub Keeps : Table → Timeline → Type 0
Keeps table t = AreCellsKept table.points (cell_at table) t

-- all atoms are true of a timeline
abbrev pub SatisfiesAll : List Atom → Timeline → Type 0
SatisfiesAll atoms t = All (Satisfies t) atoms

-- the points of the atoms are those of a table
abbrev pub AreInRange : ℕ → List Atom → Type 0
AreInRange n atoms = All (IsInRange n) atoms

-- point i is before point j in every timeline of which the atoms are true
abbrev pub Entails : List Atom → Bool → ℕ → ℕ → Type 0
Entails atoms strict i j = (t : Timeline) → SatisfiesAll atoms t → IsInOrder strict (t i) (t j)

-- the cells are exactly what the atoms entail
pub record Stands (table : Table) (atoms : List Atom) : Type 0 where
  pub strict : (i j : ℕ) → i < table.points → j < table.points → (cell_at table i j ≡ Strict) ↔ Entails atoms true i j
  pub weak : (i j : ℕ) → i < table.points → j < table.points → (cell_at table i j ≡ Weak) ↔ (Entails atoms false i j × ¬ Entails atoms true i j)

-- each point is with itself, and what follows from two cells stands in a third
pub record AreClosed (n : ℕ) (cell : ℕ → ℕ → Cell) : Type 0 where
  pub itself : (i : ℕ) → i < n → cell i i ≡ Weak
  pub through : (i j k : ℕ) → i < n → j < n → k < n → strength (joined (cell i j) (cell j k)) ≤ strength (cell i k)

abbrev pub IsClosed : Table → Type 0
IsClosed table = AreClosed table.points (cell_at table)

-- the way from point i to point j over an atom
abbrev pub way : (ℕ → ℕ → Cell) → Atom → ℕ → ℕ → Cell
way cell atom i j = joined (joined (cell i atom.from) (order atom.strict)) (cell atom.to j)

-- a cell from one point to another denies an atom from the other to the one
abbrev pub Denies : Cell → Bool → Type 0
Denies Strict strict = ⊤
Denies Weak true = ⊤
Denies Weak false = ⊥
Denies Free strict = ⊥

-- the cell of an atom says at least its order
abbrev pub GivesAtom : Table → Atom → Type 0
GivesAtom table atom = strength (order atom.strict) ≤ strength (cell_at table atom.from atom.to)
