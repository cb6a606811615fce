use Rattle.std.proofs.Common.{◌≡◌}
use Rattle.evidence_check.proofs.Proving.{IsFollowed}
use Rattle.evidence_check.proofs.walks.follow.Given as goal

-- the steps so far are joined
abbrev pub invariant-loop-step : goal.invariant-loop-step
invariant-loop-step l = record {
  number : l.k ≡ l.step-index;
  so_far : IsFollowed l.net l.steps l.step-index l.from l.at l.strict;
}
