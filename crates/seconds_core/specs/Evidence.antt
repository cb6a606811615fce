-- What evidence holds.
use Rattle.std.specs.Prelude.{◌≡◌, ℕ, ◌*◌, ◌^◌, ◌%◌, ◌<◌, ℤ, List, length}
use Rattle.seconds_core.specs.declared.line.Line.{Line}

-- there are fewer lines than this, and fewer intervals
abbrev pub max_lines : ℕ
max_lines = 2 ^ 32

-- two seconds for each interval
abbrev pub ArePairs : List ℤ → Type 0
ArePairs seconds = (length seconds % 2 ≡ 0) × (length seconds < 2 * max_lines)

-- the seconds of a placing, or the lines of a cycle
pub data PlainSeconds : Type 0 where
  Placed : List ℤ → PlainSeconds
  Cycle : List Line → PlainSeconds
