use Rattle.std.proofs.Common.{◌≢◌, ℕ, ◌<◌, ◌+◌, ◌*◌, ◌∙◌, List, get_or, ap, subst, sym}
use Rattle.order_closure.specs.declared.cell.Cell.TheVariants.{Free}
use Rattle.order_closure.specs.Bits.{AreBitsOf}
use Rattle.order_closure.specs.Planes.{AreClosedPlanes}
use Rattle.order_closure.specs.Tables.{Table, cell_at}
use Rattle.order_closure.proofs.Lending.{weak_lent}
use Rattle.order_closure.proofs.table.Closed.weak_row.Goals as goal

pub returns : goal.returns
unfolding AreClosedPlanes
returns c =
    let inside = c.self.inside in
    let w = inside.width in
    let i = c.args.i in
    let words = c.row.result.now in
    let li : i < inside.size = subst (λ (t : Table). i < t.points) (sym c.self.view_is) c.requires in
    subst (λ (t : Table). AreBitsOf t.points (λ j. cell_at t i j ≢ Free) words) c.self.view_is
    (weak_lent inside.size w inside.weak.items inside.strict.items c.self.invariant.planes i li words c.row.ensures.length
    (λ k lk. c.row.ensures.words k lk ∙ ap (λ (plane : List ℕ). get_or plane (i * w + k) 0) c.deref.ensures.value))
