use Rattle.std.proofs.Common.{ℕ, ◌+◌, ◌<◌}
use Rattle.tml_types.proofs.RepeatedNames.{DifferAt}
use Rattle.tml_types.proofs.repeats.has_equal_neighbours.Given as goal

-- the names before this one differ from the next ones
abbrev pub invariant-loop-later : goal.invariant-loop-later
invariant-loop-later l = (k : ℕ) → k + 1 < l.later → DifferAt l.names k
