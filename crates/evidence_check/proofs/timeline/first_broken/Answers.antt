use Rattle.evidence_check.proofs.timeline.first_broken.Goals as goal

pub returns-in-Others : goal.returns-in-Others
returns-in-Others c = rw c.in-Others.is c.first_broken_cite.ensures
