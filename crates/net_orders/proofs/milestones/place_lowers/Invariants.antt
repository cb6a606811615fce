use Rattle.std.proofs.Common.{◌≡◌, length}
use Rattle.net_orders.proofs.milestones.place_lowers.Given as goal

abbrev pub invariant-loop-k : goal.invariant-loop-k
invariant-loop-k l = length l.places ≡ length l.fn.places
