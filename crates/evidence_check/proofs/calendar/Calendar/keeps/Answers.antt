use Rattle.std.proofs.Common.{◌<◌, length, ap, below_more, arith}
use Rattle.net_core.specs.Ranks.{timeline_of}
use Rattle.evidence_check.specs.Calendar.{IsAllowedAt}
use Rattle.evidence_check.proofs.Calendars.{allowed_here, least_more, not_kept}
use Rattle.evidence_check.proofs.calendar.Calendar.keeps.Goals as goal

pub returns-then-not-is_allowed : goal.returns-then-not-is_allowed
returns-then-not-is_allowed c =
    let es = c.args.self.now in
    let i = c.loop-event.event-index in
    let below : i < length es = omega (arith, c.loop-event-test.true, ap length c.as_slice-events.ensures) in
    let allows = rw c.as_slice-events.ensures at c.is_allowed.ensures in
    (λ is. absurd (let e = is in cc), λ kept. absurd (not_kept es (timeline_of c.args.ranks.now) i c.loop-event.least c.loop-event.invariant.least below (λ ok. let e = allows.1 ok in let f = c.if-not-is_allowed.true in cc) kept))

pub loop-event-preserved : goal.loop-event-preserved
loop-event-preserved c =
    let es = c.args.self.now in
    let t = timeline_of c.args.ranks.now in
    let i = c.loop-event.event-index in
    let allows = rw c.as_slice-events.ensures at c.is_allowed.ensures in
    let raised = rw c.as_slice-events.ensures at c.least_after.ensures in
    record {
      least = least_more es t i c.loop-event.least c.loop-event.invariant.least c.max-least.result cc;
      so_far = below_more (IsAllowedAt es t) i c.loop-event.invariant.so_far (allowed_here es t i c.loop-event.least c.loop-event.invariant.least (allows.0 c.if-not-is_allowed.false));
    }
