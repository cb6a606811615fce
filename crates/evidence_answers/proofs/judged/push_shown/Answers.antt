use Rattle.evidence_answers.proofs.judged.push_shown.Goals as goal

pub returns-in-Entails : goal.returns-in-Entails
returns-in-Entails c = rw c.in-Entails.is c.push_relation.ensures

pub returns-in-Counter : goal.returns-in-Counter
returns-in-Counter c = rw c.in-Counter.is c.push_relation-in-Counter.ensures
