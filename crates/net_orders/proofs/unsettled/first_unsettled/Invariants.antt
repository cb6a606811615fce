use Rattle.std.proofs.Common.{◌-◌, ◌≤◌, length}
use Rattle.net_orders.proofs.unsettled.first_unsettled.Given as goal

-- only numbers of orders are left, none of them before the first
abbrev pub invariant-loop-low : goal.invariant-loop-low
invariant-loop-low l = (l.high ≤ length l.orders) × (l.first ≤ l.low)

-- fewer numbers are left
abbrev pub decreases-loop-low : goal.decreases-loop-low
decreases-loop-low l = l.high - l.low
