use Rattle.std.proofs.Common.{[], refl, arith}
use Rattle.tml_tree.proofs.Passed.{passed_none}
use Rattle.tml_canon.proofs.writer.Writer.new.Goals as goal

pub returns : goal.returns
returns c = record { tags = []; nodes = []; passed = passed_none; few = omega arith; written = record { text = c.new.ensures.items; depth = refl; is_bare = refl } }
