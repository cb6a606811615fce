use Rattle.std.proofs.Common.{◌≤◌, length}
use Rattle.order_closure.specs.Tables.{SatisfiesAll}
use Rattle.net_orders.specs.Raising.{RanksRise}
use Rattle.net_orders.proofs.least.raise_in_sequence.Given as goal

-- ranks rose by the numbers so far
abbrev pub invariant-loop-rest : goal.invariant-loop-rest
invariant-loop-rest l = record {
  within : length l.rest ≤ length l.sequence;
  so_far : RanksRise (SatisfiesAll l.orders) l.fn.ranks l.ranks;
}

-- one number fewer is left
abbrev pub decreases-loop-rest : goal.decreases-loop-rest
decreases-loop-rest l = length l.rest
