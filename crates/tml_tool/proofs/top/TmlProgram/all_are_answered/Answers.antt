use Rattle.tml_tool.proofs.Tables.{words_answered}
use Rattle.tml_tool.proofs.top.TmlProgram.all_are_answered.Goals as goal

pub returns : goal.returns
returns c = words_answered
