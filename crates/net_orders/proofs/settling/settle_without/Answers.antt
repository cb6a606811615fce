use Rattle.net_orders.specs.Orders.{FitsBut}
use Rattle.net_orders.specs.Raising.{RanksRise}
use Rattle.net_orders.proofs.Rising.{rises_then}
use Rattle.net_orders.proofs.settling.settle_without.Goals as goal
use Rattle.net_orders.proofs.settling.settle_without.Goals.{In_ok-settle_at_once}

-- ranks rose in few turns, and then in a sequence
twice : (c : In_ok-settle_at_once) → RanksRise (FitsBut c.args.orders.now c.args.fixed.now c.args.omitted) c.args.ranks.now c.settle_at_once.new.ranks
twice c =
    let fits = FitsBut c.args.orders.now c.args.fixed.now c.args.omitted in
    rises_then fits fits fits c.args.ranks.now c.settle_in_turns.new.ranks c.settle_at_once.new.ranks (λ t holds. holds) (λ t holds. holds) c.settle_in_turns.ensures.rises c.in_ok-settle_at_once.ensures.rises

pub returns-then-branch-clause-rises : goal.returns-then-branch-clause-rises
returns-then-branch-clause-rises c = twice (goal.at.returns-then-branch-clause-rises c).In_ok-settle_at_once

pub returns-clause-rises : goal.returns-clause-rises
returns-clause-rises c =
    let fits = FitsBut c.args.orders.now c.args.fixed.now c.args.omitted in
    rises_then fits fits fits c.args.ranks.now c.settle_at_once.new.ranks c.settle_in_turns-2.new.ranks (λ t holds. holds) (λ t holds. holds) (twice (goal.at.returns-clause-rises c).In_ok-settle_at_once) c.settle_in_turns-2.ensures.rises
