-- The planes of a new table.
use Rattle.std.proofs.Common.{◌≡◌, ◌≢◌, ℕ, ◌+◌, ◌*◌, ◌/◌, ◌%◌, ◌^◌, ◌<◌, ◌≤◌, Bool, true, false, List, length, get_or, set, refl, sym, ap, subst, ◌∙◌, arith, inl, inr, get_or-set_other, get_or-set_same}
use Rattle.std.specs.Prelude.{◌==◌, if◌then◌else◌}
use Rattle.std.specs.Int.{bit_at}
use Rattle.std.proofs.lemmas.Nat.{mul-add-lt, same_from_place, one_shl}
use Rattle.std.proofs.lemmas.Nat.Bits.{bit_at-zero, bit_at-pow_same, bit_at-pow_other}
use Rattle.std.proofs.lemmas.Bool.{cases_lt, cases_eq}
use Rattle.std.proofs.lemmas.Bool.Decides.{nat_tests}
use Rattle.order_closure.specs.declared.cell.Cell.TheVariants.{Free, Weak}
use Rattle.order_closure.specs.Planes.{AreClosedPlanes, cell_if, plane_bit, plane_cell}
use Rattle.order_closure.specs.Tables.{max_table_points, new_cell}
use Rattle.order_closure.proofs.Bits.{word_below}
use Rattle.order_closure.proofs.Tables.{new_other, same_closed}
use Rattle.order_closure.proofs.Adding.{new_closed}

-- the weak bit of two points of a new table: 1 where they are one
abbrev pub new_bit : ℕ → ℕ → ℕ
new_bit i j = if i == j then 1 else 0

same_bit : (i j : ℕ) → i ≡ j → new_bit i j ≡ 1
same_bit i j h = grind (arith, nat_tests)

other_bit : (i j : ℕ) → i ≢ j → new_bit i j ≡ 0
other_bit i j h = grind (arith, nat_tests)

-- the bits of the word with bit i % 64 set
word_bit : (i b : ℕ) → b / 64 ≡ i / 64 → bit_at (1 * 2 ^ (i % 64) % 2 ^ 64) (b % 64) ≡ new_bit i b
word_bit i b word =
    ap (λ n. bit_at n (b % 64)) (one_shl (i % 64) 64 (omega arith))
    ∙ elim (cases_eq (i % 64) (b % 64)) [
      | inl e ↦ subst (λ (m : ℕ). bit_at (2 ^ (i % 64)) m ≡ 1) e (bit_at-pow_same (i % 64)) ∙ sym (same_bit i b (omega arith))
      | inr ne ↦ bit_at-pow_other (i % 64) (b % 64) (λ e. ne (sym e)) ∙ sym (other_bit i b (λ e. ne (ap (λ n. n % 64) e)))
    ]

module _ (n w i : ℕ) (plane : List ℕ) (lt : i < n) (wide : w ≡ (n + 63) / 64) (long : length plane ≡ n * w) (clear : (a k : ℕ) → i ≤ a → k < w → get_or plane (a * w + k) 0 ≡ 0) where
  -- the plane with one point more that is with itself
  abbrev next : List ℕ
  next = set plane (i * w + i / 64) (1 * 2 ^ (i % 64) % 2 ^ 64)

  in_row : i / 64 < w
  in_row = word_below w i (omega arith)

  kept : (a k : ℕ) → k < w → ((a ≡ i) × (k ≡ i / 64) → ⊥) → get_or next (a * w + k) 0 ≡ get_or plane (a * w + k) 0
  kept a k lk differ = let ne : a * w + k ≢ i * w + i / 64 = λ e. differ (same_from_place a k i (i / 64) w lk in_row e) in rw get_or-set_other refl

  -- row i
  here : (b : ℕ) → b < 64 * w → plane_bit w next i b ≡ new_bit i b
  here b lb = elim (cases_eq (b / 64) (i / 64)) [
    | inl e ↦
        let inside : i * w + i / 64 < length plane = (let p = mul-add-lt i w (i / 64) n lt in_row in omega arith) in
        ap (λ m. bit_at (get_or next (i * w + m) 0) (b % 64)) e
        ∙ (rw get_or-set_same (word_bit i b e))
    | inr ne ↦
        ap (λ m. bit_at m (b % 64)) (kept i (b / 64) (word_below w b lb) (λ both. ne both.1) ∙ clear i (b / 64) (omega arith) (word_below w b lb))
        ∙ bit_at-zero (b % 64) ∙ sym (other_bit i b (λ e. ne (ap (λ m. m / 64) (sym e))))
  ]

  pub reflected : ((a b : ℕ) → a < i → b < 64 * w → plane_bit w plane a b ≡ new_bit a b) → (a b : ℕ) → a < i + 1 → b < 64 * w → plane_bit w next a b ≡ new_bit a b
  reflected done a b la lb = elim (cases_lt a i) [
    | inl before ↦ ap (λ m. bit_at m (b % 64)) (kept a (b / 64) (word_below w b lb) (λ both. let e = both.0 in omega arith)) ∙ done a b before lb
    | inr at ↦ let e : i ≡ a = omega arith in subst (λ (m : ℕ). plane_bit w next m b ≡ new_bit m b) e (here b lb)
  ]

  pub still_clear : (a k : ℕ) → i + 1 ≤ a → k < w → get_or next (a * w + k) 0 ≡ 0
  still_clear a k la lk = kept a k lk (λ both. let e = both.0 in omega arith) ∙ clear a k (omega arith) lk

-- the cell of the bits of two points of a new table
cell_of_new : (same : Bool) → cell_if ((if same then 1 else 0) == 1) (0 == 1) ≡ (if same then Weak else Free)
cell_of_new true = refl
cell_of_new false = refl

module _ (n w : ℕ) (weak strict : List ℕ) (reflexive : (i j : ℕ) → i < n → j < 64 * w → plane_bit w weak i j ≡ new_bit i j) (clear : (k : ℕ) → get_or strict k 0 ≡ 0) where
  no_strict : (i j : ℕ) → plane_bit w strict i j ≡ 0
  no_strict i j = ap (λ m. bit_at m (j % 64)) (clear (i * w + j / 64)) ∙ bit_at-zero (j % 64)

  -- the cells of a new table
  pub new_cells : w ≡ (n + 63) / 64 → (i j : ℕ) → i < n → j < n → plane_cell w weak strict i j ≡ new_cell i j
  new_cells wide i j li lj = (λ k. cell_if (reflexive i j li (omega arith) k == 1) (no_strict i j k == 1)) ∙ cell_of_new (i == j)

  -- its planes
  pub new_planes : (reached : List ℕ) → n ≤ max_table_points → w ≡ (n + 63) / 64 → length weak ≡ n * w → length strict ≡ n * w → AreClosedPlanes n w weak strict reached
  unfolding AreClosedPlanes
  new_planes reached small wide weak_long strict_long = record {
    planes = record {
      small = small;
      width = wide;
      weak_long = weak_long;
      strict_long = strict_long;
      both = λ i j li lj. let none = no_strict i j in omega arith;
      tail = λ i j li le lj. reflexive i j li lj ∙ other_bit i j (λ e. absurd (omega arith));
    };
    closed = same_closed n new_cell (plane_cell w weak strict) (λ i j li lj. sym (new_cells wide i j li lj)) (new_closed n);
    marked = λ i j li lj differ _. new_cells wide i j li lj ∙ new_other i j differ;
  }
