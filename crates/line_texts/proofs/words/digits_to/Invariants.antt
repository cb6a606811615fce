use Rattle.std.proofs.Common.{◌≡◌, length}
use Rattle.line_texts.specs.Words.{digits_to}
use Rattle.line_texts.proofs.words.digits_to.Given as goal

-- what follows the digits so far gives what all digits give
abbrev pub invariant-loop-rest : goal.invariant-loop-rest
invariant-loop-rest l = digits_to l.stop l.n l.rest ≡ digits_to l.stop 0 l.bytes

abbrev pub decreases-loop-rest : goal.decreases-loop-rest
decreases-loop-rest l = length l.rest
