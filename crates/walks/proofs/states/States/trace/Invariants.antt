use Rattle.std.proofs.Common.{◌+◌, ◌<◌, ◌≤◌, length, reverse}
use Rattle.walks.specs.States.{IsPath}
use Rattle.walks.proofs.states.States.trace.Given as goal

-- the steps so far, turned round, lead on from entry k
abbrev pub invariant-loop-arrival : goal.invariant-loop-arrival
invariant-loop-arrival l = record {
  within : l.k < length l.self.entries;
  short : length l.steps.items + l.k ≤ l.last;
  path : IsPath l.self.entries l.last l.k (reverse l.steps.items);
}

abbrev pub decreases-loop-arrival : goal.decreases-loop-arrival
decreases-loop-arrival l = l.k
