-- Serves the code: how many points are before a point.
use Rattle.std.specs.Prelude.{ℕ, zero, suc, ◌+◌, Bool, true, false, if◌then◌else◌}
use Rattle.order_closure.specs.declared.cell.Cell.{Cell}
use Rattle.order_closure.specs.declared.cell.Cell.TheVariants.{Strict}

abbrev pub is_strict : Cell → Bool
is_strict Strict = true
is_strict cell = false

-- at how many numbers below n a test holds
unfoldable pub count : (ℕ → Bool) → ℕ → ℕ
count test zero = 0
count test (suc n) = if test n then 1 + count test n else count test n

-- how many points are before point p
abbrev pub before_count : ℕ → (ℕ → ℕ → Cell) → ℕ → ℕ
before_count n cell p = count (λ r. is_strict (cell r p)) n
