use Rattle.std.proofs.Common.{◌∙◌}
use Rattle.tml_canon.proofs.WrittenUnits.{finished}
use Rattle.tml_canon.proofs.writer.Writer.finish.Goals as goal

pub returns : goal.returns
returns c = λ us h root all d. c.in_ok-extend_from_slice.ensures.items ∙ finished us h root c.args.self all d
