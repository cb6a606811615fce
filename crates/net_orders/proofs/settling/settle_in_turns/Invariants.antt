use Rattle.std.proofs.Common.{◌≡◌, ◌≤◌}
use Rattle.std.specs.List.{sum_by}
use Rattle.net_orders.specs.Orders.{FitsBut}
use Rattle.net_orders.specs.Raising.{RanksRise}
use Rattle.net_orders.proofs.settling.settle_in_turns.Given as goal

-- ranks rose in each turn
abbrev pub invariant-loop-turn : goal.invariant-loop-turn
invariant-loop-turn l = record {
  so_far : RanksRise (FitsBut l.orders l.fixed l.omitted) l.fn.ranks l.ranks;
  sum : l.before ≡ sum_by (λ rank. rank) l.ranks;
  more : l.turn ≤ sum_by (λ rank. rank) l.ranks;
}
