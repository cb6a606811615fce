use Rattle.evidence_check.proofs.ClosedWalks.{leads_closed}
use Rattle.evidence_check.proofs.closed_walks.check_closed.Goals as goal

pub returns-in-None-clause-ok : goal.returns-in-None-clause-ok
returns-in-None-clause-ok c =
    leads_closed c.args.net.now c.args.cites.now c.args.steps.now c.in-Some-step_atom.atom.from c.in-Ok.reached c.in-Ok.ensures.ok c.if-reached-atom.false c.if-not-reached.false c.in-None.ensures
