use Rattle.std.proofs.Common.{◌≡◌, length, get_or, take, ap, ◌∙◌, arith, rules}
use Rattle.std.specs.List.{sum_by}
use Rattle.std.specs.Prelude.{count_ones}
use Rattle.std.proofs.lemmas.List.{take_all}
use Rattle.std.proofs.lemmas.List.Sums.{sum_by_more}
use Rattle.std.proofs.lemmas.Nat.{ones-le}
use Rattle.order_closure.specs.Counting.{is_strict}
use Rattle.order_closure.specs.Tables.{cell_at}
use Rattle.order_closure.specs.declared.cell.Cell.TheVariants.{Strict}
use Rattle.order_closure.proofs.Ones.{ones_counted}
use Rattle.order_closure.proofs.Ranking.{is_strict_at}
use Rattle.timeline.proofs.ranking.count_after.Goals as goal

pub loop-word-init : goal.loop-word-init
loop-word-init c = record { counted = search rules; fits = λ k. (c.type_inv.row k).fits; few = omega arith }

pub overflow_add-count : goal.overflow_add-count
overflow_add-count c =
    let word = get_or c.strict_row-row.result.now c.loop-word.word-index 0 in
    let long = c.strict_row-row.ensures.long in
    omega (arith, ones-le 64 word (c.loop-word.invariant.fits c.loop-word.word-index))

pub loop-word-preserved : goal.loop-word-preserved
loop-word-preserved c =
    let row = c.strict_row-row.result.now in
    let i = c.loop-word.word-index in
    record {
      counted = omega (arith, c.loop-word.invariant.counted, sum_by_more count_ones row i 0 c.loop-word-test.true);
      fits = c.loop-word.invariant.fits;
      few = omega (arith, ones-le 64 (get_or row i 0) (c.loop-word.invariant.fits i));
    }

pub returns : goal.returns
returns c =
    let n = c.args.closed.now.points in
    let row = c.strict_row-row.result.now in
    let cell = cell_at c.args.closed.now in
    let p = c.args.point in
    let end : c.loop-word.word-index ≡ length row = omega arith in
    c.loop-word.invariant.counted ∙ ap (λ k. sum_by count_ones (take k row)) end ∙ ap (sum_by count_ones) (take_all (length row) row (omega arith))
    ∙ ones_counted n (λ q. cell p q ≡ Strict) (λ q. is_strict (cell p q)) row c.loop-word.invariant.fits (λ q lq. (λ e. ap is_strict e, is_strict_at (cell p q))) c.strict_row-row.ensures
