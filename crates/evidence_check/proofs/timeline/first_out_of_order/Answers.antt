use Rattle.std.proofs.Common.{refl}
use Rattle.net_core.specs.Ranks.{timeline_of}
use Rattle.evidence_check.proofs.Calendars.{calendar_kept}
use Rattle.evidence_check.proofs.timeline.first_out_of_order.Goals as goal

pub returns-then-keeps : goal.returns-then-keeps
returns-then-keeps c = (calendar_kept c.args.net.now c.args.demands.now.calendar (timeline_of c.args.ranks.now) c.requires.demands.calendar).0 (c.if-keeps.ensures.0 refl)
