use Rattle.order_closure.specs.Planes.{AreClosedPlanes, plane_cell}
use Rattle.order_closure.proofs.Tables.{table_closed}
use Rattle.order_closure.proofs.table.Closed.points.Goals as goal

pub returns-clause-closed : goal.returns-clause-closed
unfolding AreClosedPlanes
returns-clause-closed c =
    let inside = c.self.inside in
    table_closed inside.size (plane_cell inside.width inside.weak.items inside.strict.items) c.args.self.now c.self.view_is c.self.invariant.closed
