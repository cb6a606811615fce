-- Lines that lead from point to point, and those that lead back with a sum below 0.
use Rattle.std.specs.Prelude.{◌≡◌, ℕ, ℤ, pos, ◌+ℤ◌, ◌<ℤ◌, List, [], ◌∷◌, Option, Some, None}
use Rattle.seconds_core.specs.declared.line.Constraint.{Constraint}
use Rattle.seconds_core.specs.declared.line.Line.{Line}
use Rattle.seconds_core.specs.Constraints.{constraint_of}
use Rattle.seconds_core.specs.Timed.{PlainTimed}

-- Each line names a constraint. The first begins at x, each begins where the one before it ended, and the last ends at y.
abbrev pub LeadFromTo : PlainTimed → List Line → ℕ → ℕ → Type 0
LeadFromTo timed [] x y = x ≡ y
LeadFromTo timed (line ∷ lines) x y = (c : Constraint) × (constraint_of timed line ≡ Some c) × (c.from ≡ x) × LeadFromTo timed lines c.to y

abbrev pub weight_in : Option Constraint → ℤ
weight_in (Some c) = c.weight
weight_in None = pos 0

-- the sum of the weights of the constraints
abbrev pub sum_of : PlainTimed → List Line → ℤ
sum_of timed [] = pos 0
sum_of timed (line ∷ lines) = weight_in (constraint_of timed line) +ℤ sum_of timed lines

-- a negative cycle: lines that lead from a point back to it, whose sum is below 0
abbrev pub IsNegative : PlainTimed → List Line → Type 0
IsNegative timed lines = (x : ℕ) × LeadFromTo timed lines x x × (sum_of timed lines <ℤ pos 0)
