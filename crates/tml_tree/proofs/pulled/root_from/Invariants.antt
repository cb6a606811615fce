use Rattle.std.proofs.Common.{◌-◌, length}
use Rattle.tml_tree.specs.Taking.{HasBuilt}
use Rattle.tml_tree.proofs.Pulling.{HasGiven}
use Rattle.tml_tree.proofs.pulled.root_from.Given as goal

-- the builder has taken the units given so far
abbrev pub invariant-loop-unit : goal.invariant-loop-unit
invariant-loop-unit l = HasGiven l.fn.reader.source (λ given. HasBuilt given l.builder) l.reader

abbrev pub decreases-loop-unit : goal.decreases-loop-unit
decreases-loop-unit l = length l.reader.source - l.reader.place
