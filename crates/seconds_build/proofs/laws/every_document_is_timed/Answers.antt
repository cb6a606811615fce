use Rattle.seconds_build.proofs.EveryTime.{every_timed}
use Rattle.seconds_build.proofs.laws.every_document_is_timed.Goals as goal

pub returns : goal.returns
returns c = every_timed
