use Rattle.order_answers.proofs.OneCounterexample as law
use Rattle.order_answers.proofs.laws.one_counterexample.Goals as goal

pub returns : goal.returns
returns c = law.one_counterexample
