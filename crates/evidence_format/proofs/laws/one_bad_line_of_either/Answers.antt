use Rattle.evidence_format.proofs.Reading.{one_bad_of_either}
use Rattle.evidence_format.proofs.laws.one_bad_line_of_either.Goals as goal

pub returns : goal.returns
returns c = one_bad_of_either
