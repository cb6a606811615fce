use Rattle.std.proofs.Common.{ℕ, ◌+◌, ◌<◌, get_or}
use Rattle.tml_types.proofs.repeats.rise.Given as goal

-- the numbers before this one are below the next ones
abbrev pub invariant-loop-later : goal.invariant-loop-later
invariant-loop-later l = (k : ℕ) → k + 1 < l.later → get_or l.numbers k 0 < get_or l.numbers (k + 1) 0
