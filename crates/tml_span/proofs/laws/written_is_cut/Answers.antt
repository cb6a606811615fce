use Rattle.tml_span.proofs.Written as law
use Rattle.tml_span.proofs.laws.written_is_cut.Goals as goal

pub returns : goal.returns
returns c = law.written_is_cut
