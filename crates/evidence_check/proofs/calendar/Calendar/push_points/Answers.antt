use Rattle.std.proofs.Common.{ℕ, le_antisymm, subst, arith}
use Rattle.net_core.specs.Nets.{points}
use Rattle.evidence_check.specs.Calendar.{AreEvents}
use Rattle.evidence_check.proofs.Calendars.{events_sorted}
use Rattle.evidence_check.proofs.calendar.Calendar.push_points.Goals as goal

pub returns : goal.returns
returns c =
    let net = c.args.net.now in
    let all = le_antisymm (omega (arith, c.loop-point.auto.point-end, c.loop-point.invariant.end)) (omega (arith, c.loop-point-test.false, c.loop-point.invariant.end)) in
    record {
      complete = events_sorted net (points net) c.loop-point.self c.sort.new.self c.sort.ensures.permutation (subst (λ (n : ℕ). AreEvents net n c.loop-point.self) all c.loop-point.invariant.so_far);
      in_order = c.sort.ensures.in_order;
    }
