use Rattle.tml_types.proofs.TypedOrFault as law
use Rattle.tml_types.proofs.laws.typed_or_fault.Goals as goal

pub returns : goal.returns
returns c = law.typed_or_fault
