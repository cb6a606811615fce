use Rattle.std.proofs.Common.{◌≡◌, ◌++◌, length}
use Rattle.tml_canon.specs.Canonical.{quoted}
use Rattle.tml_canon.proofs.canonical.push_value.Given as goal

-- what is left of the value is still to be put last
abbrev pub invariant-loop-at : goal.invariant-loop-at
invariant-loop-at l = l.out.items ++ quoted l.rest ≡ l.fn.out.items ++ quoted l.fn.value

abbrev pub decreases-loop-at : goal.decreases-loop-at
decreases-loop-at l = length l.rest
