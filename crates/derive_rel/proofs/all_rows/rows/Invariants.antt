use Rattle.std.proofs.Common.{◌≡◌, ◌/◌, ◌≤◌, []}
use Rattle.order_closure.specs.Tables.{max_table_points}
use Rattle.derive_rel.specs.Entailed.{IsRow}
use Rattle.derive_rel.specs.Pushing.{ArePutLast}
use Rattle.derive_rel.proofs.Turns.{IsFromBelow}
use Rattle.derive_rel.proofs.all_rows.rows.Given as goal

-- the rows of the intervals so far are put after none
abbrev pub invariant-loop-a : goal.invariant-loop-a
invariant-loop-a l = record {
  end : l.a-end ≡ l.closed.points / 2;
  few : l.closed.points ≤ max_table_points;
  put : ArePutLast (IsRow l.closed) (IsFromBelow l.a) [] l.rows;
}
