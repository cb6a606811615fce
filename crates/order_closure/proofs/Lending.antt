-- The rows of bits that are lent.
use Rattle.std.proofs.Common.{◌≡◌, ◌≢◌, ◌↔◌, ℕ, zero, suc, ◌+◌, ◌*◌, ◌/◌, ◌%◌, ◌<◌, ◌≤◌, Bool, true, false, List, length, get_or, refl, ap, ◌∙◌, arith, inl, inr}
use Rattle.std.specs.Prelude.{◌==◌}
use Rattle.std.specs.Int.{bit_at}
use Rattle.std.proofs.lemmas.Bool.{cases_lt}
use Rattle.std.proofs.lemmas.List.{get_or_past}
use Rattle.std.proofs.lemmas.Nat.Bits.{bit_at-lt, bit_at-zero}
use Rattle.order_closure.specs.declared.cell.Cell.TheVariants.{Free, Strict}
use Rattle.order_closure.specs.Bits.{bit_of, AreBitsOf}
use Rattle.order_closure.specs.Planes.{ArePlanes, cell_if, plane_bit, plane_cell}
use Rattle.order_closure.specs.Tables.{table_of, cell_at}
use Rattle.order_closure.proofs.Bits.{row_bit}
use Rattle.order_closure.proofs.Tables.{cell_at-table_of}

-- a cell whose weak bit is set is not Free
not_free : (strict : Bool) → cell_if true strict ≢ Free
not_free true e = cc
not_free false e = cc

-- the weak bit is set where the cell is not Free
weak_set : (a b : ℕ) → a < 2 → (a ≡ 1) ↔ (cell_if (a == 1) (b == 1) ≢ Free)
weak_set zero b lt = (λ e. absurd (omega arith), λ differ. absurd (differ refl))
weak_set (suc zero) b lt = (λ e. not_free (b == 1), λ differ. refl)
weak_set (suc (suc a)) b lt = absurd (omega arith)

-- the strict bit is set where the cell is Strict
strict_set : (a b : ℕ) → a < 2 → b ≤ a → (b ≡ 1) ↔ (cell_if (a == 1) (b == 1) ≡ Strict)
strict_set zero zero lt le = (λ e. absurd (omega arith), λ e. cc)
strict_set zero (suc b) lt le = absurd (omega arith)
strict_set (suc zero) zero lt le = (λ e. absurd (omega arith), λ e. cc)
strict_set (suc zero) (suc zero) lt le = (λ e. refl, λ e. refl)
strict_set (suc zero) (suc (suc b)) lt le = absurd (omega arith)
strict_set (suc (suc a)) b lt le = absurd (omega arith)

module _ (w i : ℕ) (plane words : List ℕ) (long : length words ≡ w) (same : (k : ℕ) → k < w → get_or words k 0 ≡ get_or plane (i * w + k) 0) where
  -- past the words nothing is set
  bit_past : (j : ℕ) → 64 * w ≤ j → bit_of words j ≡ 0
  bit_past j le = ap (λ n. bit_at n (j % 64)) (get_or_past words (j / 64) 0 (omega arith)) ∙ bit_at-zero (j % 64)

  -- nor past the last point
  tail_lent : (n : ℕ) → ((j : ℕ) → n ≤ j → j < 64 * w → plane_bit w plane i j ≡ 0) → (j : ℕ) → n ≤ j → bit_of words j ≡ 0
  tail_lent n tail j le = elim (cases_lt j (64 * w)) [
    | inl lj ↦ row_bit w i plane words same j lj ∙ tail j le lj
    | inr past ↦ bit_past j past
  ]

module _ (n w : ℕ) (weak strict : List ℕ) (planes : ArePlanes n w weak strict) (i : ℕ) (li : i < n) (words : List ℕ) (long : length words ≡ w) where
  bit_small : (j : ℕ) → plane_bit w weak i j < 2
  bit_small j = bit_at-lt (get_or weak (i * w + j / 64) 0) (j % 64)

  -- the words of a row of the first plane
  pub weak_lent : ((k : ℕ) → k < w → get_or words k 0 ≡ get_or weak (i * w + k) 0) → AreBitsOf n (λ j. cell_at (table_of n (plane_cell w weak strict)) i j ≢ Free) words
  weak_lent same = record {
    long = long ∙ planes.width;
    set = λ j lj.
        let width = planes.width in
        rw (cell_at-table_of n (plane_cell w weak strict) i j li lj, row_bit w i weak words same j (omega arith)) (weak_set (plane_bit w weak i j) (plane_bit w strict i j) (bit_small j));
    tail = tail_lent w i weak words long same n (λ j le lj. planes.tail i j li le lj);
  }

  -- the words of a row of the second plane
  pub strict_lent : ((k : ℕ) → k < w → get_or words k 0 ≡ get_or strict (i * w + k) 0) → AreBitsOf n (λ j. cell_at (table_of n (plane_cell w weak strict)) i j ≡ Strict) words
  strict_lent same = record {
    long = long ∙ planes.width;
    set = λ j lj.
        let width = planes.width in
        rw (cell_at-table_of n (plane_cell w weak strict) i j li lj, row_bit w i strict words same j (omega arith)) (strict_set (plane_bit w weak i j) (plane_bit w strict i j) (bit_small j) (planes.both i j li (omega arith)));
    tail = tail_lent w i strict words long same n (λ j le lj. let clear = planes.tail i j li le lj in let less = planes.both i j li lj in omega arith);
  }
