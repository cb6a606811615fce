use Rattle.std.proofs.Common.{◌↔◌, subst}
use Rattle.std.specs.Prelude.{IsTrue}
use Rattle.order_closure.specs.Cells.{CellSays}
use Rattle.order_closure.specs.declared.cell.Cell.{Cell}
use Rattle.tml_possible.proofs.Growing.{points_kept}
use Rattle.tml_possible.proofs.trying.are_kept_from.Goals as goal

pub returns : goal.returns
returns c =
    let x = c.args.of_a in
    let y = c.args.of_b in
    let starts = c.is_true-starts.result in
    let back = c.is_true-back.result in
    let across = c.is_true-across.result in
    let finishes = c.is_true-finishes.result in
    points_kept c.args.closed.now c.args.a c.args.b x y starts back across finishes
    (subst (λ (cell : Cell). IsTrue starts ↔ CellSays cell x.start y.start) c.cell.ensures c.is_true-starts.ensures)
    (subst (λ (cell : Cell). IsTrue back ↔ CellSays cell x.start y.finish) c.cell-2.ensures c.is_true-back.ensures)
    (subst (λ (cell : Cell). IsTrue across ↔ CellSays cell x.finish y.start) c.cell-3.ensures c.is_true-across.ensures)
    (subst (λ (cell : Cell). IsTrue finishes ↔ CellSays cell x.finish y.finish) c.cell-4.ensures c.is_true-finishes.ensures)
