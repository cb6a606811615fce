use Rattle.std.proofs.Common.{length}
use Rattle.tml_span.proofs.Passing.{IsPassing}
use Rattle.tml_span.proofs.check.check_units.Given as goal

abbrev pub invariant-loop-rest : goal.invariant-loop-rest
invariant-loop-rest l = IsPassing l.source l.place l.rest

abbrev pub decreases-loop-rest : goal.decreases-loop-rest
decreases-loop-rest l = length l.rest
