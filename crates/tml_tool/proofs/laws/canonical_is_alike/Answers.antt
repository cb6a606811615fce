use Rattle.tml_tool.proofs.Alike as law
use Rattle.tml_tool.proofs.laws.canonical_is_alike.Goals as goal

pub returns : goal.returns
returns c = law.canonical_is_alike
