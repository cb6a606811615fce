use Rattle.seconds_format.proofs.PartLaws as parts
use Rattle.seconds_format.proofs.laws.same_begun.Goals as goal

pub returns : goal.returns
returns c = parts.same_begun
