use Rattle.tml_refs.proofs.DocumentOrFault as law
use Rattle.tml_refs.proofs.laws.resolved_or_fault.Goals as goal

pub returns : goal.returns
returns c = law.all_are_resolved
