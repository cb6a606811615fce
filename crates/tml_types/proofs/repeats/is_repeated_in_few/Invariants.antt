use Rattle.std.proofs.Common.{◌≡◌, length, map}
use Rattle.tml_span.specs.View.{attribute_of}
use Rattle.tml_types.specs.Rules.{is_repeated}
use Rattle.tml_types.proofs.repeats.is_repeated_in_few.Given as goal

-- a repeated name is looked for in what is left
abbrev pub invariant-loop-left : goal.invariant-loop-left
invariant-loop-left l = is_repeated (map attribute_of l.left) ≡ is_repeated (map attribute_of l.attrs)

abbrev pub decreases-loop-left : goal.decreases-loop-left
decreases-loop-left l = length l.left
