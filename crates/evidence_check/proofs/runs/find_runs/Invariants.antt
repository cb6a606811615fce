use Rattle.std.proofs.Common.{ℕ, ◌+◌, ◌≤◌, List, ◌++◌, length, take}
use Rattle.evidence_check.specs.Pairs.{AreRuns}
use Rattle.evidence_check.proofs.runs.find_runs.Given as goal

-- with any runs of what is left, the runs so far are those of all pairs
abbrev pub invariant-loop-rest : goal.invariant-loop-rest
invariant-loop-rest l = record {
  few : l.runs + length l.rest ≤ length l.pairs;
  runs : (more : List ℕ) → AreRuns more l.rest → AreRuns (take l.runs l.lens ++ more) l.pairs;
}

abbrev pub decreases-loop-rest : goal.decreases-loop-rest
decreases-loop-rest l = length l.rest
