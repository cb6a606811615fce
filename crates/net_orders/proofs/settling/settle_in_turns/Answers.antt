use Rattle.std.proofs.Common.{◌≤◌, ℕ, List, sym, subst, arith}
use Rattle.net_core.specs.Ranks.{timeline_of}
use Rattle.net_core.proofs.RankLaws.{same_sum, sum_of, sum_rises}
use Rattle.order_closure.specs.Tables.{SatisfiesAll}
use Rattle.net_orders.specs.Orders.{FitsBut}
use Rattle.net_orders.specs.Raising.{AreLow}
use Rattle.net_orders.proofs.Rising.{rises_part, rises_then}
use Rattle.net_orders.proofs.Settled.{low_from_all}
use Rattle.net_orders.proofs.settling.settle_in_turns.Goals as goal

pub loop-turn-init : goal.loop-turn-init
loop-turn-init c = record {
  so_far = rises_part (SatisfiesAll c.args.fixed.now) (FitsBut c.args.orders.now c.args.fixed.now c.args.omitted) c.args.ranks.now c.raise_all.new.ranks (λ t fits. fits.kept) c.raise_all.ensures.rises;
  sum = c.total-before.ensures;
  more = omega arith;
}

pub returns-then-after-before-clause-rises : goal.returns-then-after-before-clause-rises
returns-then-after-before-clause-rises c =
    let fits = FitsBut c.args.orders.now c.args.fixed.now c.args.omitted in
    rises_then fits fits fits c.args.ranks.now c.loop-turn.ranks c.raise_turn.new.ranks (λ t holds. holds) (λ t holds. holds) c.loop-turn.invariant.so_far c.raise_turn.ensures.rises

pub returns-then-after-before-clause-fits : goal.returns-then-after-before-clause-fits
returns-then-after-before-clause-fits c are =
    let fits = FitsBut c.args.orders.now c.args.fixed.now c.args.omitted in
    let rises = c.raise_turn.ensures.rises in
    let less : sum_of c.raise_turn.new.ranks ≤ sum_of c.loop-turn.ranks = omega (arith, c.loop-turn.invariant.sum, c.total-after.ensures, c.if-after-before.true) in
    let same = same_sum c.loop-turn.ranks c.raise_turn.new.ranks rises.size rises.higher less in
    let low : AreLow c.raise_turn.new.ranks = low_from_all c.raise_turn.new.ranks (c.are_low.ensures.0 are) in
    subst (λ (xs : List ℕ). fits (timeline_of xs)) (sym same) (c.raise_turn.ensures.settled same (subst AreLow same low))

pub loop-turn-preserved : goal.loop-turn-preserved
loop-turn-preserved c =
    let fits = FitsBut c.args.orders.now c.args.fixed.now c.args.omitted in
    let rises = c.raise_turn.ensures.rises in
    record {
      so_far = rises_then fits fits fits c.args.ranks.now c.loop-turn.ranks c.raise_turn.new.ranks (λ t holds. holds) (λ t holds. holds) c.loop-turn.invariant.so_far rises;
      sum = c.total-after.ensures;
      more = omega (arith, sum_rises c.loop-turn.ranks c.raise_turn.new.ranks rises.size rises.higher, c.loop-turn.invariant.sum, c.total-after.ensures, c.if-after-before.false, c.loop-turn.invariant.more);
    }
