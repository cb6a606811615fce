use Rattle.tml_span.proofs.Excluding as law
use Rattle.tml_span.proofs.laws.one_fault.Goals as goal

pub returns : goal.returns
returns c = law.one_faults
