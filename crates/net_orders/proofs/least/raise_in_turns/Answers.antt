use Rattle.std.proofs.Common.{ℕ, subst, sym}
use Rattle.order_closure.specs.Tables.{AreInRange, SatisfiesAll}
use Rattle.net_orders.specs.Raising.{RanksRise}
use Rattle.net_orders.proofs.Rising.{rises_then}
use Rattle.net_orders.proofs.least.raise_in_turns.Goals as goal
use Rattle.net_orders.proofs.least.raise_in_turns.Goals.{After-raise_in_sequence}

-- ranks rose in this turn too
so_far : (c : After-raise_in_sequence) → RanksRise (SatisfiesAll c.args.orders.now) c.args.ranks.now c.raise_in_sequence.new.ranks
so_far c =
    let all = SatisfiesAll c.args.orders.now in
    rises_then all all all c.args.ranks.now c.turns.ranks c.raise_in_sequence.new.ranks (λ t holds. holds) (λ t holds. holds) c.turns.invariant c.raise_in_sequence.ensures

pub raise_in_sequence-requires : goal.raise_in_sequence-requires
raise_in_sequence-requires c = record {
  in_range = subst (λ (n : ℕ). AreInRange n c.args.orders.now) (sym c.turns.invariant.size) c.requires.in_range;
  within = c.turns.invariant.within c.requires.within;
}

pub returns-then-all_hold-clause-rises : goal.returns-then-all_hold-clause-rises
returns-then-all_hold-clause-rises c = so_far (goal.at.returns-then-all_hold-clause-rises c).After-raise_in_sequence

pub turns-preserved : goal.turns-preserved
turns-preserved c = so_far (goal.at.turns-preserved c).After-raise_in_sequence
