-- Serves the code: ranks of two intervals that are tried.
use Rattle.std.specs.Prelude.{ℕ, ◌/◌, ◌%◌}
use Rattle.net_core.specs.Atoms.{point_in, points_of}
use Rattle.net_core.specs.declared.atom.End.{End}
use Rattle.net_core.specs.declared.net.Ends.{Ends}
use Rattle.order_closure.specs.Cells.{CellSays}
use Rattle.order_closure.specs.Tables.{Table, cell_at}

-- the cells from the points of interval a to those of interval b are true of these ranks of both
abbrev pub AreKeptFrom : Table → ℕ → ℕ → Ends → Ends → Type 0
AreKeptFrom table a b x y = (p q : End) → CellSays (cell_at table (point_in (points_of a) p) (point_in (points_of b) q)) (point_in x p) (point_in y q)

-- the cells of the points of both are
pub record AreKeptAmong (table : Table) (a b : ℕ) (x y : Ends) : Type 0 where
  pub first : AreKeptFrom table a a x x
  pub forth : AreKeptFrom table a b x y
  pub back : AreKeptFrom table b a y x
  pub second : AreKeptFrom table b b y y

-- ranks below 4 of two intervals, by a number below 256
abbrev pub end_ranks : ℕ → Ends × Ends
end_ranks code = (record { start = code % 4; finish = code / 4 % 4 }, record { start = code / 16 % 4; finish = code / 64 % 4 })
