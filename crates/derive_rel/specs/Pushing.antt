-- Serves the code: rows that are put last.
use Rattle.std.specs.Prelude.{◌≡◌, ◌↔◌, ◌≤◌, ℕ, List, ◌++◌, true}
use Rattle.net_core.specs.declared.rels.Rel.{Rel}
use Rattle.order_closure.specs.Cells.{order, strength}
use Rattle.order_closure.specs.Tables.{Table, cell_at}
use Rattle.derive_rel.specs.Entailed.{AreAllRows, TableEntails}
use Rattle.derive_rel.specs.declared.all_rows.Row.{Row}

-- the rows of a kind that meet a condition
abbrev pub AreRowsWhere : (Row → Type 0) → (Row → Type 0) → List Row → Type 0
AreRowsWhere Kind Meets rows = AreAllRows (λ (row : Row). Kind row × Meets row) rows

-- these rows of a kind are put last
abbrev pub ArePutLast : (Row → Type 0) → (Row → Type 0) → List Row → List Row → Type 0
ArePutLast Kind Meets old new = (more : List Row) × (new ≡ old ++ more) × AreRowsWhere Kind Meets more

-- a row of an interval and one after it
abbrev pub IsFrom : ℕ → Row → Type 0
IsFrom a row = row.a ≡ a

-- a row of two intervals
abbrev pub IsRowOf : ℕ → ℕ → Row → Type 0
IsRowOf a b row = (row.a ≡ a) × (row.b ≡ b)

-- no relation but that of a row can hold between its intervals
abbrev pub IsAlone : Table → Row → Type 0
IsAlone table row = (r : Rel) → TableEntails table row.a r row.b → r ≡ row.rel

-- the relation of a row is that one point is before another
abbrev pub IsOrder : Table → Row → ℕ → ℕ → Type 0
IsOrder table row from to = (strength (order true) ≤ strength (cell_at table from to)) ↔ TableEntails table row.a row.rel row.b
