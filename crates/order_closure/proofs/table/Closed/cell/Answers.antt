use Rattle.std.proofs.Common.{◌∙◌}
use Rattle.order_closure.specs.Planes.{plane_cell}
use Rattle.order_closure.proofs.Tables.{cell_of_table}
use Rattle.order_closure.proofs.table.Closed.cell.Goals as goal

pub returns : goal.returns
returns c =
    let inside = c.self.inside in
    c.cell_at.ensures
    ∙ (λ k. plane_cell inside.width (c.deref.ensures.value k) (c.deref-2.ensures.value k) c.args.i c.args.j)
    ∙ cell_of_table inside.size (plane_cell inside.width inside.weak.items inside.strict.items) c.args.self.now c.self.view_is c.args.i c.args.j c.requires.i c.requires.j
