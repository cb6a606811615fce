use Rattle.net_core.specs.Ranks.{timeline_of}
use Rattle.evidence_check.proofs.timeline.first_broken_of_all.Goals as goal

pub returns-then-are_kept : goal.returns-then-are_kept
returns-then-are_kept c k below every = (c.requires.demands.orders.same (timeline_of c.args.ranks.now)).0 (c.are_kept.ensures.0 c.if-are_kept.true) k below
