use Rattle.std.proofs.Common.{◌≡◌, ◌+◌, ◌++◌, sym, subst, ap, length, length-append, arith}
use Rattle.net_core.specs.Nets.{lower, upper}
use Rattle.evidence_check.specs.Calendar.{AreEvents, events_of}
use Rattle.evidence_check.specs.declared.calendar.Kind.TheVariants.{Upper, Lower, Past}
use Rattle.evidence_check.proofs.Calendars.{few_events, more_events}
use Rattle.evidence_check.proofs.calendar.Calendar.push_point.Goals as goal

pub push-requires-2 : goal.push-requires-2
push-requires-2 c = omega (arith, simp length-append at (ap length c.push.ensures), few_events Upper c.args.point c.upper.result)

pub push-requires-3 : goal.push-requires-3
push-requires-3 c =
    omega (arith, simp length-append at (ap length c.push.ensures), few_events Upper c.args.point c.upper.result, simp length-append at (ap length c.push-2.ensures), few_events Lower c.args.point c.lower.result)

pub returns-clause-few : goal.returns-clause-few
returns-clause-few c =
    omega (
      arith,
      simp length-append at (ap length c.push.ensures),
      few_events Upper c.args.point c.upper.result,
      simp length-append at (ap length c.push-2.ensures),
      few_events Lower c.args.point c.lower.result,
      simp length-append at (ap length c.push-3.ensures),
      few_events Past c.args.point c.upper-2.result,
    )

pub returns-clause-events : goal.returns-clause-events
returns-clause-events c =
    let net = c.args.net.now in
    let p = c.args.point in
    let is : c.push-3.new.self ≡ ((c.args.self.now ++ events_of Upper p (upper net p)) ++ events_of Lower p (lower net p)) ++ events_of Past p (upper net p) = cc in
    subst (AreEvents net (p + 1)) (sym is) (more_events net p c.args.self.now c.requires.point c.requires.events)
