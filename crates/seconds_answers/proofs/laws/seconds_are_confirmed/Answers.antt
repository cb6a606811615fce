use Rattle.seconds_answers.proofs.SecondsConfirmed.{seconds_are_confirmed}
use Rattle.seconds_answers.proofs.laws.seconds_are_confirmed.Goals as goal

pub returns : goal.returns
returns c = seconds_are_confirmed
