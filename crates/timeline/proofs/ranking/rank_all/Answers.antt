use Rattle.std.proofs.Common.{◌≡◌, ℕ, ◌+◌, ◌/◌, length, get_or, sym, ap, subst, ◌∙◌, arith}
use Rattle.order_closure.specs.Counting.{is_strict}
use Rattle.order_closure.specs.Tables.{cell_at}
use Rattle.order_closure.specs.declared.cell.Cell.TheVariants.{Strict}
use Rattle.order_closure.proofs.Counting.{count-le}
use Rattle.timeline.proofs.Raised.{AreRankedTo, all_ranked, bit_below, raised_by_bits, ranked_more, ranked_none}
use Rattle.timeline.proofs.Turns.{point_at, turns_are}
use Rattle.timeline.proofs.ranking.rank_all.Goals as goal

pub overflow_add-least : goal.overflow_add-least
overflow_add-least c =
    let n = c.args.closed.now.points in
    let cell = cell_at c.args.closed.now in
    let turns = turns_are n cell c.args.turns.now c.requires.counted c.requires.sorted in
    let p = point_at c.args.turns.now c.loop-turn.turn-index in
    let small = c.loop-turn.invariant.ranked.small p (turns.inside c.loop-turn.turn-index c.loop-turn-test.true) in
    omega (arith, small, count-le (λ q. is_strict (cell q p)) n, c.requires.few)

pub loop-turn-init : goal.loop-turn-init
loop-turn-init c =
    let n = c.args.closed.now.points in
    let cell = cell_at c.args.closed.now in
    let turns = turns_are n cell c.args.turns.now c.requires.counted c.requires.sorted in
    record {
      size = c.requires.size;
      ranked = ranked_none n cell (length c.args.turns.now) (point_at c.args.turns.now) c.requires.closed turns (λ q. get_or c.args.ranks.now q 0) c.requires.zero;
    }

pub raise_after-requires : goal.raise_after-requires
raise_after-requires c =
    let n = c.args.closed.now.points in
    let row = c.strict_row.result.now in
    let p = point_at c.args.turns.now c.loop-turn.turn-index in
    let size = c.loop-turn.invariant.size in
    record {
      long = c.strict_row.ensures.long ∙ ap (λ m. (m + 63) / 64) (sym size);
      within = λ q is. rw size (bit_below n (λ j. cell_at c.args.closed.now p j ≡ Strict) row c.strict_row.ensures q is);
    }

pub loop-turn-preserved : goal.loop-turn-preserved
loop-turn-preserved c =
    let n = c.args.closed.now.points in
    let cell = cell_at c.args.closed.now in
    let m = length c.args.turns.now in
    let point = point_at c.args.turns.now in
    let k = c.loop-turn.turn-index in
    let turns = turns_are n cell c.args.turns.now c.requires.counted c.requires.sorted in
    let old : ℕ → ℕ = λ q. get_or c.loop-turn.ranks q 0 in
    let new : ℕ → ℕ = λ q. get_or c.raise_after.new.ranks q 0 in
    let had = c.loop-turn.invariant in
    record {
      size = c.raise_after.auto.ranks ∙ had.size;
      ranked = ranked_more n cell m point c.requires.closed turns k old new c.loop-turn-test.true
          (raised_by_bits n cell (point k) old new c.strict_row.result.now c.strict_row.ensures c.raise_after.ensures) had.ranked;
    }

pub returns : goal.returns
returns c =
    let n = c.args.closed.now.points in
    let cell = cell_at c.args.closed.now in
    let m = length c.args.turns.now in
    let point = point_at c.args.turns.now in
    let turns = turns_are n cell c.args.turns.now c.requires.counted c.requires.sorted in
    let end : c.loop-turn.turn-index ≡ m = omega arith in
    all_ranked n cell m point c.requires.closed turns c.loop-turn.ranks
    (subst (λ (k : ℕ). AreRankedTo n cell point k (λ q. get_or c.loop-turn.ranks q 0)) end c.loop-turn.invariant.ranked)
