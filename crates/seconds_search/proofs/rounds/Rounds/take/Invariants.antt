use Rattle.std.proofs.Common.{◌≡◌, ◌+◌, length}
use Rattle.seconds_search.specs.Relaxation.{total}
use Rattle.seconds_search.specs.Rounds.{AreRounds, GoOn}
use Rattle.seconds_search.proofs.rounds.Rounds.take.Given as goal

abbrev pub invariant-loop-next : goal.invariant-loop-next
invariant-loop-next l = record {
  rounds : AreRounds (length l.distances.seconds) l.edges l.self;
  order : l.self.order ≡ l.initial.self.order;
  go_on : GoOn l.edges l.initial.distances l.distances l.lowered;
}

-- a point comes to the others only where a distance was lowered
abbrev pub decreases-loop-next : goal.decreases-loop-next
decreases-loop-next l = total l.distances.seconds + length l.self.again.items
