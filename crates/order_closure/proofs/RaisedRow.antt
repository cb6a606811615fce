-- A row that is joined with the words of another one is raised by the way there.
use Rattle.std.proofs.Common.{◌≡◌, ◌≢◌, ℕ, ◌+◌, ◌*◌, ◌/◌, ◌%◌, ◌<◌, ◌≤◌, max, Bool, true, false, List, length, get_or, refl, ap, subst, sym, ◌∙◌, arith, inl, inr}
use Rattle.std.specs.Prelude.{◌==◌, ◌||◌}
use Rattle.std.proofs.lemmas.Nat.Bits.{bit_at-lt}
use Rattle.std.proofs.lemmas.Bool.{cases_eq}
use Rattle.std.proofs.lemmas.Bool.Decides.{nat_tests}
use Rattle.order_closure.specs.declared.cell.Cell.{Cell}
use Rattle.order_closure.specs.declared.cell.Cell.TheVariants.{Free, Weak, Strict}
use Rattle.order_closure.specs.Bits.{bit_of}
use Rattle.order_closure.specs.Cells.{strength, stronger, joined}
use Rattle.order_closure.specs.Planes.{ArePlanes, BeginWithRow, IsRowJoined, plane_bit, cell_if, plane_cell}
use Rattle.order_closure.proofs.Bits.{row_bit}

-- of a bit that is at most another one: where it is set, so is the other
one_le : (a b : ℕ) → a ≤ b → b < 2 → (a == 1) ≡ true → (b == 1) ≡ true
one_le a b le lt h = grind (arith, nat_tests)

-- the greater of two bits is set where one of them is
one_max : (a b : ℕ) → a < 2 → b < 2 → (max a b == 1) ≡ ((a == 1) || (b == 1))
one_max a b la lb = grind (arith, nat_tests)

-- over tests: weak bits joined with weak ones, and strict with strict ones, are the stronger of two cells
weak_cells : (v s x y : Bool) → (s ≡ true → v ≡ true) → (y ≡ true → x ≡ true) → cell_if (v || x) (s || y) ≡ stronger (cell_if v s) (joined Weak (cell_if x y))
weak_cells true true x y h k = refl
weak_cells true false true true h k = refl
weak_cells true false true false h k = refl
weak_cells true false false true h k = let e = k refl in cc
weak_cells true false false false h k = refl
weak_cells false true x y h k = let e = h refl in cc
weak_cells false false true true h k = refl
weak_cells false false true false h k = refl
weak_cells false false false true h k = let e = k refl in cc
weak_cells false false false false h k = refl

-- and strict bits joined with weak ones are the stronger of a cell and of the way by Strict
strict_cells : (v s x y : Bool) → (s ≡ true → v ≡ true) → cell_if (v || x) (s || x) ≡ stronger (cell_if v s) (joined Strict (cell_if x y))
strict_cells true true x y h = refl
strict_cells true false true true h = refl
strict_cells true false true false h = refl
strict_cells true false false y h = refl
strict_cells false true x y h = let e = h refl in cc
strict_cells false false true true h = refl
strict_cells false false true false h = refl
strict_cells false false false y h = refl

-- the strict words that a way joins: all words of the row where it is strict
abbrev pub words_by : Cell → List ℕ → List ℕ → List ℕ
words_by Strict weak strict = weak
words_by Weak weak strict = strict
words_by Free weak strict = strict

-- the same of bits
joined_cells : (way : Cell) (v s x y z : ℕ) → 1 ≤ strength way → v < 2 → x < 2 → s ≤ v → y ≤ x → (way ≡ Strict → z ≡ x) → (way ≢ Strict → z ≡ y)
    → cell_if (max v x == 1) (max s z == 1) ≡ stronger (cell_if (v == 1) (s == 1)) (joined way (cell_if (x == 1) (y == 1)))
joined_cells Free v s x y z some lv lx le le' h k = absurd (omega arith)
joined_cells Weak v s x y z some lv lx le le' h k =
    (λ i. cell_if (one_max v x lv lx i) ((ap (λ m. max s m == 1) (k (λ e. cc)) ∙ one_max s y (omega arith) (omega arith)) i))
    ∙ weak_cells (v == 1) (s == 1) (x == 1) (y == 1) (one_le s v le lv) (one_le y x le' lx)
joined_cells Strict v s x y z some lv lx le le' h k =
    (λ i. cell_if (one_max v x lv lx i) ((ap (λ m. max s m == 1) (h refl) ∙ one_max s x (omega arith) lx) i))
    ∙ strict_cells (v == 1) (s == 1) (x == 1) (y == 1) (one_le s v le lv)

-- row i of planes is raised by a way and from there by a row of cells, and the other rows are as they were
pub record IsRaised (n w : ℕ) (weak strict : List ℕ) (i : ℕ) (over : ℕ → Cell) (way : Cell) (new_weak new_strict : List ℕ) : Type 0 where
  pub planes : ArePlanes n w new_weak new_strict
  pub raised : (j : ℕ) → j < n → plane_cell w new_weak new_strict i j ≡ stronger (plane_cell w weak strict i j) (joined way (over j))
  pub others : (r j : ℕ) → r < n → j < n → r ≢ i → plane_cell w new_weak new_strict r j ≡ plane_cell w weak strict r j

-- the words of row `to` of two planes
module _ (n w to : ℕ) (old_weak old_strict : List ℕ) (old : ArePlanes n w old_weak old_strict) (lt : to < n)
    (over_weak over_strict : List ℕ) (weak_words : BeginWithRow w to old_weak over_weak) (strict_words : BeginWithRow w to old_strict over_strict) where
  weak_over : (j : ℕ) → j < 64 * w → bit_of over_weak j ≡ plane_bit w old_weak to j
  weak_over = row_bit w to old_weak over_weak weak_words

  strict_over : (j : ℕ) → j < 64 * w → bit_of over_strict j ≡ plane_bit w old_strict to j
  strict_over = row_bit w to old_strict over_strict strict_words

  both_over : (j : ℕ) → j < 64 * w → bit_of over_strict j ≤ bit_of over_weak j
  both_over j lj = let e = weak_over j lj in let f = strict_over j lj in let le = old.both to j lt lj in omega arith

  -- they are joined with row i of planes
  module _ (weak strict : List ℕ) (planes : ArePlanes n w weak strict) (i : ℕ) (li : i < n) (way : Cell) (new_weak new_strict : List ℕ)
      (weak_row : IsRowJoined w i over_weak weak new_weak) (by_strict : way ≡ Strict → IsRowJoined w i over_weak strict new_strict) (by_weak : way ≢ Strict → IsRowJoined w i over_strict strict new_strict) where
    strict_row : (x : Cell) → way ≡ x → IsRowJoined w i (words_by x over_weak over_strict) strict new_strict
    strict_row Free e = by_weak (λ s. cc)
    strict_row Weak e = by_weak (λ s. cc)
    strict_row Strict e = by_strict e

    words_le : (x : Cell) (j : ℕ) → j < 64 * w → bit_of (words_by x over_weak over_strict) j ≤ bit_of over_weak j
    words_le Free j lj = both_over j lj
    words_le Weak j lj = both_over j lj
    words_le Strict j lj = omega arith

    -- the cells of row i
    row_raised : 1 ≤ strength way → (j : ℕ) → j < n → plane_cell w new_weak new_strict i j ≡ stronger (plane_cell w weak strict i j) (joined way (plane_cell w old_weak old_strict to j))
    row_raised some j lj =
        let wide : j < 64 * w = (let e = planes.width in omega arith) in
        let small = λ (m : ℕ). bit_at-lt m (j % 64) in
        (λ k. cell_if (weak_row.joined j wide k == 1) ((strict_row way refl).joined j wide k == 1))
        ∙ joined_cells way (plane_bit w weak i j) (plane_bit w strict i j) (bit_of over_weak j) (bit_of over_strict j) (bit_of (words_by way over_weak over_strict) j) some
        (small (get_or weak (i * w + j / 64) 0)) (small (get_or over_weak (j / 64) 0)) (planes.both i j li wide) (both_over j wide)
        (λ e k. bit_of (words_by (e k) over_weak over_strict) j) (λ differ. words_weak way differ j)
        ∙ (λ k. stronger (plane_cell w weak strict i j) (joined way (cell_if (weak_over j wide k == 1) (strict_over j wide k == 1))))
      where
        words_weak : (x : Cell) → x ≢ Strict → (b : ℕ) → bit_of (words_by x over_weak over_strict) b ≡ bit_of over_strict b
        words_weak Free differ b = refl
        words_weak Weak differ b = refl
        words_weak Strict differ b = absurd (differ refl)

    -- the cells of the other rows
    others_same : (r j : ℕ) → r < n → j < n → r ≢ i → plane_cell w new_weak new_strict r j ≡ plane_cell w weak strict r j
    others_same r j lr lj differ =
        let wide : j < 64 * w = (let e = planes.width in omega arith) in
        (λ k. cell_if (weak_row.others r j differ wide k == 1) ((strict_row way refl).others r j differ wide k == 1))

    -- the planes
    planes_raised : length new_weak ≡ length weak → length new_strict ≡ length strict → ArePlanes n w new_weak new_strict
    planes_raised weak_long strict_long = record {
      small = planes.small;
      width = planes.width;
      weak_long = weak_long ∙ planes.weak_long;
      strict_long = strict_long ∙ planes.strict_long;
      both = λ r j lr lj. let le = planes.both r j lr lj in elim (cases_eq r i) [
        | inl e ↦ subst (λ (m : ℕ). plane_bit w new_strict m j ≤ plane_bit w new_weak m j) (sym e) (
            let v = weak_row.joined j lj in let s = (strict_row way refl).joined j lj in
            let here = planes.both i j li lj in let there = words_le way j lj in omega arith)
        | inr ne ↦ let v = weak_row.others r j ne lj in let s = (strict_row way refl).others r j ne lj in omega arith
      ];
      tail = λ r j lr past lj. let was = planes.tail r j lr past lj in elim (cases_eq r i) [
        | inl e ↦ subst (λ (m : ℕ). plane_bit w new_weak m j ≡ 0) (sym e) (
            let v = weak_row.joined j lj in let here = planes.tail i j li past lj in
            let there = weak_over j lj ∙ old.tail to j lt past lj in omega arith)
        | inr ne ↦ weak_row.others r j ne lj ∙ was
      ];
    }

    -- all of it
    pub raised_row : 1 ≤ strength way → length new_weak ≡ length weak → length new_strict ≡ length strict → IsRaised n w weak strict i (plane_cell w old_weak old_strict to) way new_weak new_strict
    raised_row some weak_long strict_long = record { planes = planes_raised weak_long strict_long; raised = row_raised some; others = others_same }
