-- Serves the code: following lines from a point.
use Rattle.std.specs.Prelude.{◌≡◌, ℕ, ◌+◌, ◌<◌, List, length, take}
use Rattle.seconds_core.specs.declared.line.Line.{Line}
use Rattle.seconds_core.specs.Cycles.{LeadFromTo, sum_of}
use Rattle.seconds_core.specs.Timed.{PlainTimed}
use Rattle.seconds_check.specs.Refusals.{LinesGoFrom}
use Rattle.seconds_check.specs.declared.cycle.LinesEnd.{LinesEnd}

-- the lines are joined from a point to this one, and this is the sum of their weights
abbrev pub LinesLeadTo : PlainTimed → ℕ → List Line → LinesEnd → Type 0
LinesLeadTo timed from lines reached = LeadFromTo timed lines from reached.at × (reached.sum ≡ sum_of timed lines)

-- line k is the first that does not go on
abbrev pub LinesStopAt : PlainTimed → ℕ → List Line → ℕ → Type 0
LinesStopAt timed from lines k = (k < length lines) × LinesGoFrom timed from (take k lines) × (LinesGoFrom timed from (take (k + 1) lines) → ⊥)
