use Rattle.answers.proofs.Answered.{judges_first}
use Rattle.evidence_answers.specs.Confirmed.{OfConfirm, seconds_file}
use Rattle.evidence_answers.proofs.laws.confirm_judges_first.Goals as goal

pub returns : goal.returns
returns c = λ name other. judges_first name (seconds_file other) OfConfirm
