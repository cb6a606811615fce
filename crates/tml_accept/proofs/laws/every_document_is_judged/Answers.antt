use Rattle.tml_accept.proofs.Judged as law
use Rattle.tml_accept.proofs.laws.every_document_is_judged.Goals as goal

pub returns : goal.returns
returns c = law.every_document
