use Rattle.std.proofs.Common.{◌↔◌, ℕ, ◌<◌, ◌≤◌}
use Rattle.net_core.specs.Ranks.{timeline_of}
use Rattle.evidence_check.specs.Calendar.{Allow, IsAllowedAt}
use Rattle.evidence_check.proofs.calendar.Calendar.keeps.Given as goal

-- the ranks so far are allowed, and the next ones that are have at least this rank
abbrev pub invariant-loop-event : goal.invariant-loop-event
invariant-loop-event l = record {
  least : (rank : ℕ) → (l.least ≤ rank) ↔ Allow l.self (timeline_of l.ranks) l.event-index rank;
  so_far : (j : ℕ) → j < l.event-index → IsAllowedAt l.self (timeline_of l.ranks) j;
}
