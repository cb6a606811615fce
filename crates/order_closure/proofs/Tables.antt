-- A table made from a function of two points.
use Rattle.std.proofs.Common.{◌≡◌, ℕ, ◌<◌, List, [], map, get_or, sym, ap, subst, ◌∙◌, arith}
use Rattle.std.specs.List.{range_with_len}
use Rattle.std.proofs.lemmas.Bool.Decides.{nat_tests}
use Rattle.std.proofs.lemmas.List.FromFn.{get_or-map-range_with_len, length-map-range_with_len, fill_by_all}
use Rattle.order_closure.specs.declared.cell.Cell.{Cell}
use Rattle.order_closure.specs.declared.cell.Cell.TheVariants.{Free, Weak}
use Rattle.order_closure.specs.Tables.{Table, table_of, cell_at, new_cell, AreClosed, IsClosed}

abbrev row : (ℕ → ℕ → Cell) → ℕ → ℕ → List Cell
row f n i = map (λ j. f i j) (range_with_len 0 n)

-- a cell of the table of a function
pub cell_at-table_of : (n : ℕ) (f : ℕ → ℕ → Cell) (i j : ℕ) → i < n → j < n → cell_at (table_of n f) i j ≡ f i j
cell_at-table_of n f i j li lj =
    ap (λ (r : List Cell). get_or r j Free) (get_or-map-range_with_len (row f n) 0 n i i [] li (omega arith))
    ∙ get_or-map-range_with_len (λ j. f i j) 0 n j j Free lj (omega arith)

row_same : (n : ℕ) (f g : ℕ → ℕ → Cell) (i : ℕ) → ((j : ℕ) → j < n → f i j ≡ g i j) → row f n i ≡ row g n i
row_same n f g i h = fill_by_all (λ j. g i j) (row f n i) n Free (length-map-range_with_len (λ j. f i j) 0 n) (λ j lj. get_or-map-range_with_len (λ j. f i j) 0 n j j Free lj (omega arith) ∙ h j lj)

-- functions that agree at the points have one table
pub table_of-same : (n : ℕ) (f g : ℕ → ℕ → Cell) → ((i j : ℕ) → i < n → j < n → f i j ≡ g i j) → table_of n f ≡ table_of n g
table_of-same n f g h = ap (λ (rows : List (List Cell)). record { points = n; rows = rows })
    (fill_by_all (row g n) (map (row f n) (range_with_len 0 n)) n [] (length-map-range_with_len (row f n) 0 n) (λ i li. get_or-map-range_with_len (row f n) 0 n i i [] li (omega arith) ∙ row_same n f g i (λ j. h i j li)))

-- functions that agree at the points are closed alike
pub same_closed : (n : ℕ) (f g : ℕ → ℕ → Cell) → ((i j : ℕ) → i < n → j < n → f i j ≡ g i j) → AreClosed n f → AreClosed n g
same_closed n f g same closed = record {
  itself = λ i li. sym (same i i li li) ∙ closed.itself i li;
  through = λ i j k li lj lk. rw (← same i j li lj, ← same j k lj lk, ← same i k li lk) (closed.through i j k li lj lk);
}

-- the table of a closed function is closed
pub table_of-closed : (n : ℕ) (f : ℕ → ℕ → Cell) → AreClosed n f → IsClosed (table_of n f)
table_of-closed n f closed = same_closed n f (cell_at (table_of n f)) (λ i j li lj. sym (cell_at-table_of n f i j li lj)) closed

-- a cell of the table of a function, where it is known by another name
pub cell_of_table : (n : ℕ) (f : ℕ → ℕ → Cell) (table : Table) → table_of n f ≡ table → (i j : ℕ) → i < table.points → j < table.points → f i j ≡ cell_at table i j
cell_of_table n f table e = subst (λ (u : Table). (i j : ℕ) → i < u.points → j < u.points → f i j ≡ cell_at u i j) e (λ i j li lj. sym (cell_at-table_of n f i j li lj))

-- such a table is closed as the function is
pub table_closed : (n : ℕ) (f : ℕ → ℕ → Cell) (table : Table) → table_of n f ≡ table → AreClosed n f → IsClosed table
table_closed n f table e closed = subst IsClosed e (table_of-closed n f closed)

-- the cells of a new table
pub new_same : (i : ℕ) → new_cell i i ≡ Weak
new_same i = grind (arith, nat_tests)

pub new_other : (i j : ℕ) → ¬ (i ≡ j) → new_cell i j ≡ Free
new_other i j h = grind (arith, nat_tests)
