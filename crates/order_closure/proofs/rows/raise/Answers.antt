use Rattle.std.proofs.Common.{◌<◌, ◌∙◌, refl, sym, ap, arith}
use Rattle.order_closure.specs.Cells.{joined, order, strength, stronger}
use Rattle.order_closure.specs.Planes.{plane_cell}
use Rattle.order_closure.proofs.Kept.{CanBeRaised, none_raised, one_skipped, one_raised, all_raised, no_smaller}
use Rattle.order_closure.proofs.RaisedRow.{raised_row}
use Rattle.order_closure.proofs.rows.raise.Goals as goal
use Rattle.order_closure.proofs.rows.raise.Goals.{then-is_raised, else-is_raised}

pub loop-i-init : goal.loop-i-init
loop-i-init c = record {
  planes = c.requires.planes;
  rows = none_raised c.args.size (plane_cell c.args.width c.args.weak.now c.args.strict.now) c.args.atom.from c.args.atom.to (order c.args.atom.strict) c.rows_before-rows.result.start
      (λ r lr ln. c.requires.reached r c.args.atom.from ln c.requires.from (λ e. omega arith) (c.rows_before-rows.ensures.before (omega arith)));
}

pub loop-i-preserved : goal.loop-i-preserved
loop-i-preserved c =
    let n = c.args.size in
    let w = c.args.width in
    let from = c.args.atom.from in
    let to = c.args.atom.to in
    let o = order c.args.atom.strict in
    let i = c.loop-i.i in
    let cell = plane_cell w c.args.weak.now c.args.strict.now in
    let now = plane_cell w c.loop-i.weak c.loop-i.strict in
    let li : i < n = omega arith in
    let can : CanBeRaised n cell from to o = record { closed = c.requires.closed; has_from = c.requires.from; has_to = c.requires.to; fits = c.requires.fits } in
    elim c.if-is_raised.branch [
      | then-is_raised t ↦
          let way = t.joined-way.result in
          let is = t.joined-way.ensures ∙ (λ k. joined (t.cell_at.ensures k) (c.order-order.ensures k)) in
          let more : strength (now i to) < strength way = rw is (c.is_raised.ensures.0 t.if-is_raised.true) in
          let new = t.raise_row.new in
          let row = raised_row n w to c.args.weak.now c.args.strict.now c.requires.planes c.requires.to c.copied_row-over_weak.result.words c.copied_row-over_strict.result.words c.copied_row-over_weak.ensures.row c.copied_row-over_strict.ensures.row
          c.loop-i.weak c.loop-i.strict c.loop-i.invariant.planes i li way new.weak new.strict t.raise_row.ensures.weak t.raise_row.ensures.by_strict t.raise_row.ensures.by_weak (omega (arith, more)) t.raise_row.auto.weak t.raise_row.auto.strict in
          record {
            planes = rw (t.weak-is, t.strict-is) row.planes;
            rows = rw (t.weak-is, t.strict-is) (one_raised n cell from to o can i now way li c.loop-i.invariant.rows is (plane_cell w new.weak new.strict) more
                (λ j lj. row.raised j lj ∙ ap (λ x. stronger (now i j) (joined way x)) (sym (c.loop-i.invariant.rows.over j lj))) row.others);
          }
      | else-is_raised e ↦ record {
        planes = rw (e.weak-is, e.strict-is) c.loop-i.invariant.planes;
        rows = rw (e.weak-is, e.strict-is) (one_skipped n cell from to o can i now (joined (now i from) o) li c.loop-i.invariant.rows refl (no_smaller _ _ _ c.is_raised.ensures e.if-is_raised.false));
      }
    ]

pub returns-clause-raised : goal.returns-clause-raised
returns-clause-raised c =
    all_raised c.args.size (plane_cell c.args.width c.args.weak.now c.args.strict.now) c.args.atom.from c.args.atom.to (order c.args.atom.strict) c.loop-i.i (plane_cell c.args.width c.loop-i.weak c.loop-i.strict) c.loop-i.invariant.rows
    (λ r le lr. c.requires.reached r c.args.atom.from lr c.requires.from (λ e. omega arith) (c.rows_before-rows.ensures.after (omega arith)))
