-- Words of the rows of a plane.
use Rattle.std.proofs.Common.{◌≡◌, ℕ, suc, ◌+◌, ◌*◌, ◌/◌, ◌%◌, ◌<◌, ◌≤◌, List, ap, arith}
use Rattle.std.specs.Int.{bit_at}
use Rattle.std.proofs.lemmas.Nat.{div_below, mul-le}
use Rattle.std.proofs.Math.Nat.{suc-mul}
use Rattle.order_closure.specs.Bits.{bit_of}
use Rattle.order_closure.specs.Planes.{BeginWithRow, plane_bit}

-- the word of a bit stands in its row
pub word_below : (w j : ℕ) → j < 64 * w → j / 64 < w
word_below w j lt = div_below j 64 w (omega arith) (omega arith)

-- a row ends before a later one begins
pub row_within : (w a b : ℕ) → a < b → a * w + w ≤ b * w
row_within w a b lt = omega (arith, mul-le (suc a) w b w lt (omega arith), suc-mul a w)

-- the bits of the words of a row
pub row_bit : (w i : ℕ) (plane words : List ℕ) → BeginWithRow w i plane words → (j : ℕ) → j < 64 * w → bit_of words j ≡ plane_bit w plane i j
row_bit w i plane words same j lj = ap (λ m. bit_at m (j % 64)) (same (j / 64) (word_below w j lj))
