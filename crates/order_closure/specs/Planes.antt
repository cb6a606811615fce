-- Two planes of bits stand for the cells of a table.
use Rattle.std.specs.Prelude.{◌≡◌, ◌≢◌, ◌⊎◌, ℕ, ◌+◌, ◌*◌, ◌/◌, ◌%◌, ◌<◌, ◌≤◌, ◌==◌, Bool, true, false, List, length, max, slice_index}
use Rattle.std.specs.Int.{bit_at}
use Rattle.order_closure.specs.Bits.{bit_of}
use Rattle.order_closure.specs.Tables.{AreClosed, max_table_points}
use Rattle.order_closure.specs.declared.cell.Cell.{Cell}
use Rattle.order_closure.specs.declared.cell.Cell.TheVariants.{Free, Weak, Strict}

-- the most words of a row
abbrev pub most_words : ℕ
most_words = max_table_points / 64

-- bit j of row i of a plane whose rows have w words
abbrev pub plane_bit : ℕ → List ℕ → ℕ → ℕ → ℕ
plane_bit w plane i j = bit_at (slice_index plane (i * w + j / 64)) (j % 64)

-- the cell of its weak bit and its strict one
abbrev pub cell_if : Bool → Bool → Cell
cell_if false strict = Free
cell_if true false = Weak
cell_if true true = Strict

-- the cells that two planes stand for
abbrev pub plane_cell : ℕ → List ℕ → List ℕ → ℕ → ℕ → Cell
plane_cell w weak strict i j = cell_if (plane_bit w weak i j == 1) (plane_bit w strict i j == 1)

-- two planes of n rows of w words: a strict bit is a weak bit too, and every bit from n on is 0
pub record ArePlanes (n w : ℕ) (weak strict : List ℕ) : Type 0 where
  pub small : n ≤ max_table_points
  pub width : w ≡ (n + 63) / 64
  pub weak_long : length weak ≡ n * w
  pub strict_long : length strict ≡ n * w
  pub both : (i j : ℕ) → i < n → j < 64 * w → plane_bit w strict i j ≤ plane_bit w weak i j
  pub tail : (i j : ℕ) → i < n → n ≤ j → j < 64 * w → plane_bit w weak i j ≡ 0

-- a plane of one row, in which bit j is set where a point other than j is before or with point j; it may be set elsewhere too
abbrev pub MarksReached : ℕ → ℕ → (ℕ → ℕ → Cell) → List ℕ → Type 0
MarksReached n w cell reached = (i j : ℕ) → i < n → j < n → i ≢ j → plane_bit w reached 0 j ≡ 0 → cell i j ≡ Free

-- planes whose cells are closed, and the row of the points that others reach; what this says is not seen where it is not needed
unfoldable pub AreClosedPlanes : ℕ → ℕ → List ℕ → List ℕ → List ℕ → Type 0
AreClosedPlanes n w weak strict reached = record {
  planes : ArePlanes n w weak strict;
  closed : AreClosed n (plane_cell w weak strict);
  marked : MarksReached n w (plane_cell w weak strict) reached;
}

-- words that begin with those of row i of a plane
abbrev pub BeginWithRow : ℕ → ℕ → List ℕ → List ℕ → Type 0
BeginWithRow w i plane words = (k : ℕ) → k < w → slice_index words k ≡ slice_index plane (i * w + k)

-- of w words, those before the first number and those from the second one on have no bits
pub record AreUsed (w : ℕ) (words : List ℕ) (start end : ℕ) : Type 0 where
  pub order : start ≤ end
  pub within : end ≤ w
  pub clear : (k : ℕ) → k < w → (k < start) ⊎ (end ≤ k) → slice_index words k ≡ 0

-- row i is joined with other words, bit by bit, and the other rows are as they were
pub record IsRowJoined (w i : ℕ) (over old new : List ℕ) : Type 0 where
  pub joined : (j : ℕ) → j < 64 * w → plane_bit w new i j ≡ max (plane_bit w old i j) (bit_of over j)
  pub others : (r j : ℕ) → r ≢ i → j < 64 * w → plane_bit w new r j ≡ plane_bit w old r j
