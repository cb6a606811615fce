use Rattle.tml_refs.proofs.OneAnswer as law
use Rattle.tml_refs.proofs.laws.one_answer.Goals as goal

pub returns : goal.returns
returns c = law.one_answer
