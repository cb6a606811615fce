use Rattle.std.proofs.Common.{◌≡◌, ◌*◌, ◌≤◌, length}
use Rattle.net_core.specs.Nets.{points}
use Rattle.evidence_check.specs.Calendar.{AreEvents}
use Rattle.evidence_check.proofs.calendar.Calendar.push_points.Given as goal

-- the events so far are those of the points so far
abbrev pub invariant-loop-point : goal.invariant-loop-point
invariant-loop-point l = record {
  end : l.point-end ≡ points l.net;
  few : length l.self ≤ 3 * l.point;
  so_far : AreEvents l.net l.point l.self;
}
