use Rattle.order_answers.proofs.Entailments as law
use Rattle.order_answers.proofs.laws.closures_entail_what_follows.Goals as goal

pub returns : goal.returns
returns c = law.closures_entail_what_follows
