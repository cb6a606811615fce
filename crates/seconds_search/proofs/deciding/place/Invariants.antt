use Rattle.std.proofs.Common.{◌≡◌, ◌+◌, length}
use Rattle.seconds_core.specs.Timed.{origin}
use Rattle.seconds_search.specs.Relaxation.{IsRelaxed, total}
use Rattle.seconds_search.specs.Rounds.{AreRounds}
use Rattle.seconds_search.proofs.deciding.place.Given as goal

abbrev pub invariant-loop-distances : goal.invariant-loop-distances
invariant-loop-distances l = record {
  rounds : AreRounds (length l.distances.seconds) l.edges.items l.rounds;
  relaxed : IsRelaxed l.edges.items l.distances;
  size : length l.distances.seconds ≡ origin l.timed + 1;
}

-- each round but the last lowers a point
abbrev pub decreases-loop-distances : goal.decreases-loop-distances
decreases-loop-distances l = total l.distances.seconds
