use Rattle.tml_types.specs.TagReader.{bytes_left}
use Rattle.tml_canon.specs.Taking.{HasTakenUnits}
use Rattle.tml_canon.proofs.document.take_all.Given as goal

-- what was given was taken
abbrev pub invariant-loop-unit : goal.invariant-loop-unit
invariant-loop-unit l = HasTakenUnits l.fn.doc l.tags l.taken

abbrev pub decreases-loop-unit : goal.decreases-loop-unit
decreases-loop-unit l = bytes_left l.tags
