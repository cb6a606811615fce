use Rattle.answers.proofs.Answered as rows
use Rattle.evidence_answers.specs.Files.{evidence_file}
use Rattle.tml_verify.specs.Either.{OfEither}
use Rattle.tml_verify.proofs.laws.judges_first.Goals as goal

pub returns : goal.returns
returns c = λ doc other. rows.judges_first doc (evidence_file other) OfEither
