use Rattle.evidence_answers.proofs.Truth as law
use Rattle.evidence_answers.proofs.laws.confirmed_is_true.Goals as goal

pub returns-clause-placing : goal.returns-clause-placing
returns-clause-placing c = law.placing_is_true

pub returns-clause-cycle : goal.returns-clause-cycle
returns-clause-cycle c = law.cycle_is_true
