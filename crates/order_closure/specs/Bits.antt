-- The bits of a row of words.
use Rattle.std.specs.Prelude.{◌≡◌, ℕ, ◌+◌, ◌/◌, ◌%◌, ◌<◌, ◌≤◌, ◌↔◌, List, length, slice_index}
use Rattle.std.specs.Int.{bit_at}

-- bit j of words of 64 bits: of a word, bit 0 is the lowest
abbrev pub bit_of : List ℕ → ℕ → ℕ
bit_of words j = bit_at (slice_index words (j / 64)) (j % 64)

-- words for n bits: bit j is set exactly where P holds of j, and every bit from n on is 0
pub record AreBitsOf (n : ℕ) (P : ℕ → Type 0) (words : List ℕ) : Type 0 where
  pub long : length words ≡ (n + 63) / 64
  pub set : (j : ℕ) → j < n → (bit_of words j ≡ 1) ↔ P j
  pub tail : (j : ℕ) → n ≤ j → bit_of words j ≡ 0
