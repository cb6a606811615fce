use Rattle.seconds_search.proofs.Trails.{IsWalked, free}
use Rattle.seconds_search.proofs.cycle.closed_trail.Given as goal

abbrev pub invariant-loop-number : goal.invariant-loop-number
invariant-loop-number l = IsWalked l.edges l.distances l.from l.trail.items l.places.items l.point

-- each point on the way has a place, and is met once
abbrev pub decreases-loop-number : goal.decreases-loop-number
decreases-loop-number l = free l.places.items
