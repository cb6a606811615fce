use Rattle.std.proofs.Common.{◌≡◌}
use Rattle.net_core.specs.Nets.{points}
use Rattle.walks.specs.Dates.{AreDates, number_at}
use Rattle.walks.proofs.dates.dates_of.Given as goal

-- the points so far are those of the list
abbrev pub invariant-loop-point : goal.invariant-loop-point
invariant-loop-point l = record {
  end : l.point-end ≡ points l.net;
  so_far : AreDates (number_at l.side l.net) l.point l.dates.items;
}
