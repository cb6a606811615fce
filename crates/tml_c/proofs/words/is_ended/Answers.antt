use Rattle.std.proofs.Common.{arith, sym}
use Rattle.tml_c.proofs.Ending.{by_last}
use Rattle.tml_c.proofs.words.is_ended.Goals as goal

pub returns-else-is_empty : goal.returns-else-is_empty
returns-else-is_empty c = sym (by_last c.args.bytes.now (grind (arith, c.is_empty.ensures, c.if-is_empty.false)))
