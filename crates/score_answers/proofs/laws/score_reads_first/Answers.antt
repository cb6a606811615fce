use Rattle.answers.proofs.Answered.{judges_first}
use Rattle.score_answers.specs.Score.{OfScore, key_file}
use Rattle.score_answers.proofs.laws.score_reads_first.Goals as goal

pub returns : goal.returns
returns c = λ name key. judges_first name (key_file key) OfScore
