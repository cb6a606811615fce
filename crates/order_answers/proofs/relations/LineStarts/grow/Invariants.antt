use Rattle.std.proofs.Common.{◌-◌, ◌+◌, ℕ, List, vec_len}
use Rattle.order_answers.specs.LineParts.{AreStarts}
use Rattle.order_answers.proofs.relations.LineStarts.grow.Given as goal

abbrev pub invariant-more : goal.invariant-more
invariant-more l = (names : List (List ℕ)) → AreStarts names l.fn.self → AreStarts names l.self

abbrev pub decreases-more : goal.decreases-more
decreases-more l = l.number + 1 - vec_len l.self.starts
