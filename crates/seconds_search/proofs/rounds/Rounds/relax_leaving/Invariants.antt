use Rattle.std.proofs.Common.{◌≡◌, ◌+◌, ◌≤◌, length}
use Rattle.seconds_search.specs.Leaving.{IsEdgeNumber}
use Rattle.seconds_search.specs.Relaxation.{total}
use Rattle.seconds_search.specs.Rounds.{AreRounds, GoOn}
use Rattle.seconds_search.proofs.Falling.{numbers_left}
use Rattle.seconds_search.proofs.rounds.Rounds.relax_leaving.Given as goal

abbrev pub invariant-loop-next : goal.invariant-loop-next
invariant-loop-next l = record {
  next : IsEdgeNumber (length l.edges) l.next;
  rounds : AreRounds (length l.distances.seconds) l.edges l.self;
  order : l.self.order ≡ l.initial.self.order;
  go_on : GoOn l.edges l.initial.distances l.distances l.lowered;
  again : total l.distances.seconds + length l.self.again.items ≤ total l.initial.distances.seconds + length l.initial.self.again.items;
}

abbrev pub decreases-loop-next : goal.decreases-loop-next
decreases-loop-next l = numbers_left l.next
