use Rattle.derive_rel.specs.Entailed.{IsRow}
use Rattle.derive_rel.specs.Pushing.{ArePutLast}
use Rattle.derive_rel.proofs.Turns.{IsOfFirst}
use Rattle.derive_rel.proofs.all_rows.push_all.Given as goal

-- the rows of the relations so far are put last
abbrev pub invariant-loop-mask : goal.invariant-loop-mask
invariant-loop-mask l = ArePutLast (IsRow l.closed) (IsOfFirst l.a l.b l.mask-index) l.initial.rows l.rows
