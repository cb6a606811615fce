use Rattle.answers.proofs.Answered.{judges_first}
use Rattle.evidence_answers.specs.Files.{evidence_file}
use Rattle.evidence_answers.specs.Verify.{OfVerify}
use Rattle.evidence_answers.proofs.laws.verify_judges_first.Goals as goal

pub returns : goal.returns
returns c = λ name other. judges_first name (evidence_file other) OfVerify
