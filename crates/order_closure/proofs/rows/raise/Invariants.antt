use Rattle.order_closure.specs.Cells.{order}
use Rattle.order_closure.specs.Planes.{ArePlanes, plane_cell}
use Rattle.order_closure.proofs.Kept.{AreRaisedBelow}
use Rattle.order_closure.proofs.rows.raise.Given as goal

-- the rows so far are raised, the others are as they were
abbrev pub invariant-loop-i : goal.invariant-loop-i
invariant-loop-i l = record {
  planes : ArePlanes l.size l.width l.weak l.strict;
  rows : AreRaisedBelow l.size (plane_cell l.width l.fn.weak l.fn.strict) l.atom.from l.atom.to (order l.atom.strict) l.i (plane_cell l.width l.weak l.strict);
}
