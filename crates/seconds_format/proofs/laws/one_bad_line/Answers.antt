use Rattle.seconds_format.proofs.Reading as reading
use Rattle.seconds_format.proofs.laws.one_bad_line.Goals as goal

pub returns : goal.returns
returns c = reading.one_bad
