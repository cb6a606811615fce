use Rattle.std.proofs.Common.{arith}
use Rattle.std.proofs.lemmas.Grind.{common_steps}
use Rattle.tml_types.proofs.repeats.write_heads.Goals as goal

pub loop-attr-preserved : goal.loop-attr-preserved
loop-attr-preserved c = grind (arith, common_steps)
