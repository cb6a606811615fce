-- The relations that hold in all timelines of a table.
use Rattle.std.specs.Prelude.{◌≡◌, ◌⊎◌, ℕ, ◌*◌, ◌+◌, ◌<◌, Bool, true, List, length, slice_index_or}
use Rattle.std.specs.List.{All, Contains}
use Rattle.net_core.specs.Atoms.{atoms_of}
use Rattle.net_core.specs.Rels.{all_rels}
use Rattle.net_core.specs.declared.rels.Rel.{Rel}
use Rattle.net_core.specs.declared.rels.Rel.TheVariants as rel
use Rattle.order_closure.specs.Tables.{GivesAtom, Table}
use Rattle.derive_rel.specs.declared.all_rows.Row.{Row}

-- the table gives all orders that a relation is between two intervals
abbrev pub TableEntails : Table → ℕ → Rel → ℕ → Type 0
TableEntails table a r b = All (GivesAtom table) (atoms_of a r b)

-- a row has an interval, a relation and an interval after it, between which the table entails the relation
abbrev pub IsRow : Table → Row → Type 0
IsRow table row = (row.a < row.b) × (2 * row.b + 1 < table.points) × TableEntails table row.a row.rel row.b

-- a relation stands before another one in the table of relations
abbrev pub StandsBefore : Rel → Rel → Type 0
StandsBefore r s = (i : ℕ) × (j : ℕ) × (i < j) × (j < length all_rels) × (slice_index_or all_rels i rel.Before ≡ r) × (slice_index_or all_rels j rel.Before ≡ s)

-- rows are in the order of their first intervals, then of their second ones, then of the table of relations
abbrev pub ComesBefore : Row → Row → Type 0
ComesBefore row other = (row.a < other.a) ⊎ ((row.a ≡ other.a) × (row.b < other.b)) ⊎ ((row.a ≡ other.a) × (row.b ≡ other.b) × StandsBefore row.rel other.rel)

abbrev pub row_at : List Row → ℕ → Row
row_at rows k = slice_index_or rows k (record { a = 0; rel = rel.Before; b = 0 })

-- all rows that meet a condition, each once, in order
pub record AreAllRows (Meets : Row → Type 0) (rows : List Row) : Type 0 where
  pub right : All Meets rows
  pub whole : (row : Row) → Meets row → Contains rows row
  pub sorted : (k : ℕ) → k + 1 < length rows → ComesBefore (row_at rows k) (row_at rows (k + 1))

-- all rows of a table
abbrev pub AreRows : Table → List Row → Type 0
AreRows table rows = AreAllRows (IsRow table) rows

-- the law: a table has one list of rows
abbrev pub OneRowList : Type 0
OneRowList = (table : Table) (rows others : List Row) → AreRows table rows → AreRows table others → rows ≡ others

-- the law: where a test tells which rows meet a condition, and only rows of an interval and one after it, below a number, meet it, there is a list of all of them
abbrev pub EveryConditionHasRows : Type 0
EveryConditionHasRows = (meets : Row → Bool) (n : ℕ) → ((row : Row) → meets row ≡ true → (row.a < row.b) × (row.b < n)) → (rows : List Row) × AreAllRows (λ row. meets row ≡ true) rows
