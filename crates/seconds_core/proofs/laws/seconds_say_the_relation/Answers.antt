use Rattle.seconds_core.proofs.Ordered.{seconds_are_counted, seconds_say_the_relation}
use Rattle.seconds_core.proofs.laws.seconds_say_the_relation.Goals as goal

pub returns-clause-relation : goal.returns-clause-relation
returns-clause-relation c = seconds_say_the_relation

pub returns-clause-counted : goal.returns-clause-counted
returns-clause-counted c = seconds_are_counted
