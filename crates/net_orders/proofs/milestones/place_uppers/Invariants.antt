use Rattle.std.proofs.Common.{◌≡◌, length}
use Rattle.net_orders.proofs.milestones.place_uppers.Given as goal

abbrev pub invariant-loop-upper : goal.invariant-loop-upper
invariant-loop-upper l = length l.places ≡ length l.fn.places
