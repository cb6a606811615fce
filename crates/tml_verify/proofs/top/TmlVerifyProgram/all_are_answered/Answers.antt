use Rattle.tml_verify.proofs.Answered.{words_answered}
use Rattle.tml_verify.proofs.top.TmlVerifyProgram.all_are_answered.Goals as goal

pub returns : goal.returns
returns c = words_answered
