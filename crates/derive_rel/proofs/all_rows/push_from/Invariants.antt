use Rattle.std.proofs.Common.{◌≡◌, ◌/◌}
use Rattle.derive_rel.specs.Entailed.{IsRow}
use Rattle.derive_rel.specs.Pushing.{ArePutLast}
use Rattle.derive_rel.proofs.Turns.{IsOfBelow}
use Rattle.derive_rel.proofs.all_rows.push_from.Given as goal

-- the rows of the intervals so far are put last
abbrev pub invariant-loop-b : goal.invariant-loop-b
invariant-loop-b l = record {
  end : l.b-end ≡ l.closed.points / 2;
  put : ArePutLast (IsRow l.closed) (IsOfBelow l.a l.b) l.initial.rows l.rows;
}
