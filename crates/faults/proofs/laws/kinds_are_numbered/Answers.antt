use Rattle.faults.proofs.Numbered as law
use Rattle.faults.proofs.laws.kinds_are_numbered.Goals as goal

pub returns : goal.returns
returns c = law.kinds_are_numbered
