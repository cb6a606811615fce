-- The bits of two intervals are those of the orders that a table gives.
use Rattle.std.proofs.Common.{◌≡◌, ◌≢◌, ◌↔◌, ℕ, zero, suc, ◌+◌, ◌*◌, ◌/◌, ◌%◌, ◌^◌, ◌<◌, ◌≤◌, true, false, List, get_or, refl, sym, ap, ◌∙◌, arith}
use Rattle.std.specs.Prelude.{bit_and}
use Rattle.std.specs.Int.{bit_at}
use Rattle.std.proofs.lemmas.Nat.{shr-shr}
use Rattle.std.proofs.lemmas.Nat.Bits.{bit_at-lt, bit_at_and, bit_at_cat_high, bit_at_cat_low}
use Rattle.net_core.specs.Atoms.{point_in, points_of}
use Rattle.net_core.specs.declared.atom.End.{End}
use Rattle.net_core.specs.declared.atom.End.TheVariants.{Start, Finish}
use Rattle.net_core.specs.declared.atom.PairOrder.TheVariants.{ABefore, ANoLater, BBefore, BNoLater}
use Rattle.order_closure.specs.Bits.{AreBitsOf, bit_of}
use Rattle.order_closure.specs.Cells.{order, strength}
use Rattle.order_closure.specs.Tables.{Table, cell_at}
use Rattle.order_closure.specs.declared.cell.Cell.{Cell}
use Rattle.order_closure.specs.declared.cell.Cell.TheVariants.{Free, Weak, Strict}
use Rattle.order_closure.specs.Between.{AreGiven, end_number}

-- ---- two bits of a word

-- a bit of the lowest two of a word that is shifted
low_bit : (word s j : ℕ) → j < 2 → bit_at (bit_and (word / 2 ^ s) 3) j ≡ bit_at word (s + j)
low_bit word s j small =
    let both = bit_at_and (word / 2 ^ s) 3 j in
    let one : bit_at 3 j ≡ 1 = of_three j small in
    let shifted : bit_at (word / 2 ^ s) j ≡ bit_at word (s + j) = ap (λ (n : ℕ). n % 2) (shr-shr word s j) in
    omega (arith, both, one, shifted, bit_at-lt (word / 2 ^ s) j)
  where
    of_three : (j : ℕ) → j < 2 → bit_at 3 j ≡ 1
    of_three zero small = refl
    of_three (suc zero) small = refl
    of_three (suc (suc j)) small = absurd (omega arith)

-- the bits of both points of an interval in a row
pub point_bit : (row : List ℕ) (i : ℕ) (q : End) → bit_at (bit_and (get_or row (2 * i / 64) 0 / 2 ^ (2 * i % 64)) 3) (end_number q) ≡ bit_of row (point_in (points_of i) q)
point_bit row i Start =
    low_bit (get_or row (2 * i / 64) 0) (2 * i % 64) 0 (omega arith) ∙ ap (bit_at (get_or row (2 * i / 64) 0)) (omega arith)
point_bit row i Finish =
    let word : 2 * i / 64 ≡ (2 * i + 1) / 64 = omega arith in
    low_bit (get_or row (2 * i / 64) 0) (2 * i % 64) 1 (omega arith)
    ∙ (λ k. bit_at (get_or row (word k) 0) (place k))
  where
    place : 2 * i % 64 + 1 ≡ (2 * i + 1) % 64
    place = omega arith

-- ---- four times two bits

-- the lowest two of some bits, and those after them
lowest : (rest x i : ℕ) → x < 4 → i < 2 → bit_at (4 * rest + x) i ≡ bit_at x i
lowest rest x i small low = ap (λ (n : ℕ). bit_at n i) (omega arith) ∙ bit_at_cat_low rest 2 x i low

later : (rest x i : ℕ) → x < 4 → bit_at (4 * rest + x) (2 + i) ≡ bit_at rest i
later rest x i small = ap (λ (n : ℕ). bit_at n (2 + i)) (omega arith) ∙ bit_at_cat_high rest 2 x (2 + i) (omega arith) (omega arith) ∙ ap (bit_at rest) (omega arith)

-- the number of a point is below 2
end_small : (q : End) → end_number q < 2
end_small Start = omega arith
end_small Finish = omega arith

module _ (ws ss wf sf : ℕ) (a : ws < 4) (b : ss < 4) (c : wf < 4) (d : sf < 4) where
  abbrev all : ℕ
  all = 4 * (4 * (4 * sf + wf) + ss) + ws

  pub weak_bits : (p q : End) → bit_at all (4 * end_number p + end_number q) ≡ bit_at (elim p [ Start ↦ ws | Finish ↦ wf ]) (end_number q)
  weak_bits Start q =
      let at : 4 * end_number Start + end_number q ≡ end_number q = omega arith in
      ap (bit_at all) at ∙ lowest (4 * (4 * sf + wf) + ss) ws (end_number q) a (end_small q)
  weak_bits Finish q =
      let at : 4 * end_number Finish + end_number q ≡ 2 + (2 + end_number q) = omega arith in
      ap (bit_at all) at ∙ later (4 * (4 * sf + wf) + ss) ws (2 + end_number q) a ∙ later (4 * sf + wf) ss (end_number q) b ∙ lowest sf wf (end_number q) c (end_small q)

  pub strict_bits : (p q : End) → bit_at all (4 * end_number p + 2 + end_number q) ≡ bit_at (elim p [ Start ↦ ss | Finish ↦ sf ]) (end_number q)
  strict_bits Start q =
      let at : 4 * end_number Start + 2 + end_number q ≡ 2 + end_number q = omega arith in
      ap (bit_at all) at ∙ later (4 * (4 * sf + wf) + ss) ws (end_number q) a ∙ lowest (4 * sf + wf) ss (end_number q) b (end_small q)
  strict_bits Finish q =
      let at : 4 * end_number Finish + 2 + end_number q ≡ 2 + (2 + (2 + end_number q)) = omega arith in
      ap (bit_at all) at ∙ later (4 * (4 * sf + wf) + ss) ws (2 + (2 + end_number q)) a ∙ later (4 * sf + wf) ss (2 + end_number q) b ∙ later sf wf (end_number q) c

-- ---- the orders that a table gives

-- an order that is not strict is given where the cell is not free, and a strict one where it is Strict
weak_given : (x : Cell) → (x ≢ Free) ↔ (strength (order false) ≤ strength x)
weak_given Free = (λ h. absurd (h refl), λ h. absurd (omega arith))
weak_given Weak = (λ h. omega arith, λ h e. cc)
weak_given Strict = (λ h. omega arith, λ h e. cc)

strict_given : (x : Cell) → (x ≡ Strict) ↔ (strength (order true) ≤ strength x)
strict_given Free = (λ e. absurd (cc), λ h. absurd (omega arith))
strict_given Weak = (λ e. absurd (cc), λ h. absurd (omega arith))
strict_given Strict = (λ e. omega arith, λ h. refl)

-- the bits of one way
pub record AreOneWay (table : Table) (a b set : ℕ) : Type 0 where
  pub small : set < 256
  pub weak : (p q : End) → (bit_at set (4 * end_number p + end_number q) ≡ 1) ↔ (cell_at table (point_in (points_of a) p) (point_in (points_of b) q) ≢ Free)
  pub strict : (p q : End) → (bit_at set (4 * end_number p + 2 + end_number q) ≡ 1) ↔ (cell_at table (point_in (points_of a) p) (point_in (points_of b) q) ≡ Strict)

-- the bits of both ways are those of the orders that the table gives
pub both_ways_given : (table : Table) (a b forth back : ℕ) → AreOneWay table a b forth → AreOneWay table b a back → AreGiven table a b (256 * back + forth)
both_ways_given table a b forth back there here = each
  where
    first : (i : ℕ) → i < 8 → bit_at (256 * back + forth) i ≡ bit_at forth i
    first i low = ap (λ (n : ℕ). bit_at n i) (omega arith) ∙ bit_at_cat_low back 8 forth i low

    next : (i : ℕ) → bit_at (256 * back + forth) (8 + i) ≡ bit_at back i
    next i = ap (λ (n : ℕ). bit_at n (8 + i)) (omega arith) ∙ bit_at_cat_high back 8 forth (8 + i) (omega (arith, there.small)) (omega arith) ∙ ap (bit_at back) (omega arith)

    each : AreGiven table a b (256 * back + forth)
    each (ANoLater p q) =
        let at = first (4 * end_number p + end_number q) (omega (arith, end_small p, end_small q)) in
        let cell = cell_at table (point_in (points_of a) p) (point_in (points_of b) q) in
        (λ e. (weak_given cell).0 ((there.weak p q).0 (sym at ∙ e)), λ h. at ∙ (there.weak p q).1 ((weak_given cell).1 h))
    each (ABefore p q) =
        let at = first (4 * end_number p + 2 + end_number q) (omega (arith, end_small p, end_small q)) in
        let cell = cell_at table (point_in (points_of a) p) (point_in (points_of b) q) in
        (λ e. (strict_given cell).0 ((there.strict p q).0 (sym at ∙ e)), λ h. at ∙ (there.strict p q).1 ((strict_given cell).1 h))
    each (BNoLater p q) =
        let at = next (4 * end_number p + end_number q) in
        let cell = cell_at table (point_in (points_of b) p) (point_in (points_of a) q) in
        (λ e. (weak_given cell).0 ((here.weak p q).0 (sym at ∙ e)), λ h. at ∙ (here.weak p q).1 ((weak_given cell).1 h))
    each (BBefore p q) =
        let at = next (4 * end_number p + 2 + end_number q) in
        let cell = cell_at table (point_in (points_of b) p) (point_in (points_of a) q) in
        (λ e. (strict_given cell).0 ((here.strict p q).0 (sym at ∙ e)), λ h. at ∙ (here.strict p q).1 ((strict_given cell).1 h))

-- a bit of a row that stands for cells says what they are
row_says : (n : ℕ) (P : ℕ → Type 0) (row : List ℕ) (x i : ℕ) (q : End) → AreBitsOf n P row → 2 * i + 1 < n
    → bit_at x (end_number q) ≡ bit_of row (point_in (points_of i) q) → (bit_at x (end_number q) ≡ 1) ↔ P (point_in (points_of i) q)
row_says n P row x i q are within is =
    let set = are.set (point_in (points_of i) q) (below q) in
    (λ e. set.0 (sym is ∙ e), λ h. is ∙ set.1 h)
  where
    below : (q : End) → point_in (points_of i) q < n
    below Start = omega arith
    below Finish = within

-- so bits of the rows of both points of an interval say what the cells are
pub rows_say : (n : ℕ) (P : ℕ → ℕ → Type 0) (a b x y : ℕ) (start finish : List ℕ) → AreBitsOf n (P (2 * a)) start → AreBitsOf n (P (2 * a + 1)) finish → 2 * b + 1 < n
    → ((q : End) → bit_at x (end_number q) ≡ bit_of start (point_in (points_of b) q)) → ((q : End) → bit_at y (end_number q) ≡ bit_of finish (point_in (points_of b) q))
    → (set : ℕ) (place : End → End → ℕ) → ((p q : End) → bit_at set (place p q) ≡ bit_at (elim p [ Start ↦ x | Finish ↦ y ]) (end_number q))
    → (p q : End) → (bit_at set (place p q) ≡ 1) ↔ P (point_in (points_of a) p) (point_in (points_of b) q)
rows_say n P a b x y start finish of_start of_finish within first second set place bits Start q =
    let says = row_says n (P (2 * a)) start x b q of_start within (first q) in
    (λ e. says.0 (sym (bits Start q) ∙ e), λ h. bits Start q ∙ says.1 h)
rows_say n P a b x y start finish of_start of_finish within first second set place bits Finish q =
    let says = row_says n (P (2 * a + 1)) finish y b q of_finish within (second q) in
    (λ e. says.0 (sym (bits Finish q) ∙ e), λ h. bits Finish q ∙ says.1 h)
