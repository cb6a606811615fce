-- A new table, and a table after an atom was added.
use Rattle.std.proofs.Common.{◌≡◌, ◌↔◌, ℕ, ◌<◌, Bool, true, false, List, [], ◌∷◌, ◌++◌, sym, subst, ◌∙◌, arith, inl, inr}
use Rattle.std.specs.Prelude.{IsTrue}
use Rattle.std.proofs.lemmas.Bool.{cases_eq}
use Rattle.std.proofs.lemmas.Bool.Decides.{nat_tests}
use Rattle.net_core.specs.Atoms.{IsInOrder, Satisfies}
use Rattle.net_core.specs.Relations.{Timeline}
use Rattle.net_core.specs.declared.atom.Atom.{Atom}
use Rattle.order_closure.specs.declared.cell.Cell.{Cell}
use Rattle.order_closure.specs.declared.cell.Cell.TheVariants.{Free, Weak, Strict}
use Rattle.order_closure.specs.Cells.{CellSays, order, stronger, joined}
use Rattle.order_closure.specs.Tables.{Table, table_of, cell_at, new_cell, AreClosed, IsClosed, AreInRange, Stands, Denies, way, AreCellsKept, Keeps}
use Rattle.order_closure.proofs.Raising.{raised_closed, raised_kept}
use Rattle.order_closure.proofs.Tables.{cell_at-table_of, table_of-same, table_of-closed, new_same, new_other}
use Rattle.order_closure.proofs.Central.{stands_from_matches, matches_from_stands, more_atoms}

-- a cell of the table with an atom more
abbrev pub added_cell : Table → Atom → ℕ → ℕ → Cell
added_cell table atom i j = stronger (cell_at table i j) (way (cell_at table) atom i j)

module _ (table : Table) (atom : Atom) (closed : IsClosed table) (f : atom.from < table.points) (t : atom.to < table.points) (fits : ¬ Denies (cell_at table atom.to atom.from) atom.strict) where
  added_at : (i j : ℕ) → i < table.points → j < table.points → cell_at (table_of table.points (added_cell table atom)) i j ≡ added_cell table atom i j
  added_at i j li lj = cell_at-table_of table.points (added_cell table atom) i j li lj

  -- the timelines that keep the table with an atom more
  pub added_kept : (time : Timeline) → Keeps (table_of table.points (added_cell table atom)) time ↔ (Keeps table time × Satisfies time atom)
  added_kept = raised_kept table.points (cell_at table) atom closed f t fits (cell_at (table_of table.points (added_cell table atom))) added_at

  -- the table stands for one atom more
  pub added_stands : (atoms : List Atom) → AreInRange table.points atoms → Stands table atoms → Stands (table_of table.points (added_cell table atom)) (atoms ++ atom ∷ [])
  added_stands atoms inside stands =
      let new = table_of table.points (added_cell table atom) in
      stands_from_matches new (atoms ++ atom ∷ []) (raised_closed table.points (cell_at table) atom closed f t fits (cell_at new) added_at)
      (more_atoms table new atoms atom added_kept (matches_from_stands table atoms inside stands))

-- the table of the raised cells of a function
pub added_table : (n : ℕ) (cell : ℕ → ℕ → Cell) (atom : Atom) (new : ℕ → ℕ → Cell) (table : Table) → table_of n cell ≡ table → atom.from < n → atom.to < n
    → ((i j : ℕ) → i < n → j < n → new i j ≡ stronger (cell i j) (way cell atom i j)) → table_of n new ≡ table_of table.points (added_cell table atom)
added_table n cell atom new table e f t is = subst (λ (u : Table). table_of n new ≡ table_of u.points (added_cell u atom)) e
    (let at = λ (i j : ℕ) (li : i < n) (lj : j < n). sym (cell_at-table_of n cell i j li lj) in
    table_of-same n new (added_cell (table_of n cell) atom) (λ i j li lj. is i j li lj
    ∙ (λ k. stronger (at i j li lj k) (joined (joined (at i atom.from li f k) (order atom.strict)) (at atom.to j t lj k)))))

-- a test that said no
pub not_denied : (x y : Cell) (strict r : Bool) → IsTrue r ↔ Denies x strict → r ≡ false → x ≡ y → ¬ Denies y strict
not_denied x y strict r decides is e h = let both = decides.1 (subst (λ (z : Cell). Denies z strict) (sym e) h) in let clash : true ≡ false = sym both ∙ is in cc

-- what a cell denies is not in order
denied : (x : Cell) (strict : Bool) (a b : ℕ) → Denies x strict → CellSays x b a → ¬ IsInOrder strict a b
denied Strict true a b d h k = omega arith
denied Strict false a b d h k = omega arith
denied Weak true a b d h k = omega arith
denied Weak false a b d h k = d
denied Free strict a b d h k = d

-- no timeline that keeps the table makes an atom true that it denies
pub atom_denied : (table : Table) (atom : Atom) → atom.from < table.points → atom.to < table.points → Denies (cell_at table atom.to atom.from) atom.strict → (t : Timeline) → Keeps table t → ¬ Satisfies t atom
atom_denied table atom f to d t kept s = denied (cell_at table atom.to atom.from) atom.strict _ _ d (kept atom.to atom.from to f) s

-- a new table is closed
pub new_closed : (n : ℕ) → AreClosed n new_cell
new_closed n = record { itself = λ i li. new_same i; through = λ i j k li lj lk. grind (arith, nat_tests) }

-- every timeline keeps its cells
new_kept : (n : ℕ) (t : Timeline) → AreCellsKept n new_cell t
new_kept n t i j li lj = elim (cases_eq i j) [
  | inl e ↦ subst (λ (m : ℕ). CellSays (new_cell i m) (t i) (t m)) e (rw new_same (omega arith))
  | inr h ↦ rw (new_other i j h) tt
]

-- every timeline keeps a new table
pub new_all_kept : (n : ℕ) (t : Timeline) → Keeps (table_of n new_cell) t
new_all_kept n t i j li lj = rw (cell_at-table_of n new_cell i j li lj) (new_kept n t i j li lj)

-- a new table stands for no atoms
pub new_stands : (n : ℕ) → Stands (table_of n new_cell) []
new_stands n = stands_from_matches (table_of n new_cell) [] (table_of-closed n new_cell (new_closed n)) (λ t. (λ _. λ k d lt. absurd (omega arith), λ _. new_all_kept n t))
