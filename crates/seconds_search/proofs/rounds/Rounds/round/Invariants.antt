use Rattle.std.proofs.Common.{◌≡◌, length}
use Rattle.seconds_search.specs.Rounds.{AreRounds, GoOn}
use Rattle.seconds_search.proofs.rounds.Rounds.round.Given as goal

abbrev pub invariant-loop-place : goal.invariant-loop-place
invariant-loop-place l = record {
  rounds : AreRounds (length l.distances.seconds) l.edges l.self;
  end : l.place-end ≡ length l.self.order.items;
  go_on : GoOn l.edges l.initial.distances l.distances l.lowered;
}
