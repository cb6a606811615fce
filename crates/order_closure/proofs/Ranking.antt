-- Some timeline keeps a closed table, and ranks are the least that do.
use Rattle.std.proofs.Common.{◌≡◌, ℕ, zero, suc, ◌<◌, ◌≤◌, Bool, true, false, not, refl, ap, arith, inl, inr}
use Rattle.std.proofs.lemmas.Bool.{cases_lt}
use Rattle.net_core.specs.Atoms.{IsInOrder}
use Rattle.net_core.specs.Relations.{Timeline}
use Rattle.order_closure.specs.declared.cell.Cell.{Cell}
use Rattle.order_closure.specs.declared.cell.Cell.TheVariants.{Free, Weak, Strict}
use Rattle.order_closure.specs.Cells.{strength, order, joined, CellSays}
use Rattle.order_closure.specs.Tables.{AreClosed, AreCellsKept, Denies}
use Rattle.order_closure.specs.Counting.{is_strict, before_count}
use Rattle.order_closure.proofs.Counting.{count-le, count-mono, count-more}

-- the test says Strict
pub is_strict_at : (x : Cell) → is_strict x ≡ true → x ≡ Strict
is_strict_at Free h = cc
is_strict_at Weak h = cc
is_strict_at Strict h = refl

-- nothing but Strict is as strong
pub strict_from : (x : Cell) → 2 ≤ strength x → x ≡ Strict
strict_from Free h = absurd (omega arith)
strict_from Weak h = absurd (omega arith)
strict_from Strict h = refl

-- after Strict and anything but Free, only Strict can follow
joined_strict : (x y z : Cell) → x ≡ Strict → 1 ≤ strength y → strength (joined x y) ≤ strength z → z ≡ Strict
joined_strict x Free z e h k = absurd (omega arith)
joined_strict x Weak z e h k = strict_from z (rw e at k)
joined_strict x Strict z e h k = strict_from z (rw e at k)

-- what a cell says, from what follows where it is Weak or Strict and where it is Strict
says_from : (x : Cell) (a b : ℕ) → (1 ≤ strength x → a ≤ b) → (x ≡ Strict → a < b) → CellSays x a b
says_from Free a b h k = tt
says_from Weak a b h k = h (omega arith)
says_from Strict a b h k = k refl

-- what Strict says
pub strict_says : (x : Cell) (a b : ℕ) → x ≡ Strict → CellSays x a b → a < b
strict_says Free a b e h = cc
strict_says Weak a b e h = cc
strict_says Strict a b e h = h

module _ (n : ℕ) (cell : ℕ → ℕ → Cell) (closed : AreClosed n cell) where
  -- who is before the first is before the second
  passed_on : (p q r : ℕ) → p < n → q < n → r < n → 1 ≤ strength (cell p q) → cell r p ≡ Strict → cell r q ≡ Strict
  passed_on p q r lp lq lr some s = joined_strict (cell r p) (cell p q) (cell r q) s some (closed.through r p q lr lp lq)

  -- the same, of the test
  passed : (p q : ℕ) → p < n → q < n → 1 ≤ strength (cell p q) → (r : ℕ) → r < n → is_strict (cell r p) ≡ true → is_strict (cell r q) ≡ true
  passed p q lp lq some r lr h = ap is_strict (passed_on p q r lp lq lr some (is_strict_at _ h))

  -- of two points of which one is before the other, that one has fewer points before it
  pub fewer_before : (p q : ℕ) → p < n → q < n → cell p q ≡ Strict → before_count n cell p < before_count n cell q
  fewer_before p q lp lq s =
      let some : 1 ≤ strength (cell p q) = rw s (omega arith) in
      count-more (λ r. is_strict (cell r p)) (λ r. is_strict (cell r q)) n p lp (ap is_strict (closed.itself p lp)) (ap is_strict s) (passed p q lp lq some)

  -- not every point is before a point
  pub count_below_n : (p : ℕ) → p < n → before_count n cell p < n
  count_below_n p lp = omega (arith, count-le (λ _. true) n, count-more (λ r. is_strict (cell r p)) (λ _. true) n p lp (ap is_strict (closed.itself p lp)) refl (λ _ _ _. refl))

  -- how many points are before each point is a timeline that keeps the cells
  pub counts_kept : AreCellsKept n cell (before_count n cell)
  counts_kept i j li lj = says_from (cell i j) _ _
      (λ some. count-mono (λ r. is_strict (cell r i)) (λ r. is_strict (cell r j)) n (passed i j li lj some))
      (fewer_before i j li lj)

  -- of a timeline in which each point has the least number above those before it
  module _ (t : Timeline) (above : (r p : ℕ) → r < n → p < n → cell r p ≡ Strict → t r < t p) (least : (p m : ℕ) → p < n → ((r : ℕ) → r < n → cell r p ≡ Strict → t r < m) → t p ≤ m) where
    -- it keeps the cells
    pub ranks_kept : AreCellsKept n cell t
    ranks_kept i j li lj = says_from (cell i j) _ _
        (λ some. least i (t j) li (λ r lr s. above r j lr lj (passed_on i j r li lj lr some s)))
        (above i j li lj)

    -- it is at most every timeline that keeps them, point by point in the order of how many are before
    below : (u : Timeline) → AreCellsKept n cell u → (b p : ℕ) → p < n → before_count n cell p < b → t p ≤ u p
    below u kept zero p lp lt = absurd (omega arith)
    below u kept (suc b) p lp lt = least p (u p) lp (λ r lr s.
        let less = fewer_before r p lr lp s in
        let first : t r ≤ u r = below u kept b r lr (omega arith) in
        let second : u r < u p = strict_says (cell r p) _ _ s (kept r p lr lp) in
        omega arith)

    pub ranks_least : (u : Timeline) → AreCellsKept n cell u → (i : ℕ) → i < n → t i ≤ u i
    ranks_least u kept i li = below u kept n i li (count_below_n i li)

    -- no place is above the number of points less one
    pub ranks_small : (i : ℕ) → i < n → t i < n
    ranks_small i li = omega (arith, ranks_least (before_count n cell) counts_kept i li, count_below_n i li)

-- a cell weaker than an atom does not deny the opposite
pub opposite_fits : (x : Cell) (strict : Bool) → strength x < strength (order strict) → ¬ Denies x (not strict)
opposite_fits Free strict h d = d
opposite_fits Weak true h d = d
opposite_fits Weak false h d = absurd (omega arith)
opposite_fits Strict true h d = absurd (omega arith)
opposite_fits Strict false h d = absurd (omega arith)

-- an order and the opposite one the other way round exclude each other
pub not_both : (strict : Bool) (a b : ℕ) → IsInOrder (not strict) b a → ¬ IsInOrder strict a b
not_both true a b h k = omega arith
not_both false a b h k = omega arith

-- where an order does not hold, the opposite one holds the other way round
pub not_is : (strict : Bool) (a b : ℕ) → ¬ IsInOrder strict a b → IsInOrder (not strict) b a
not_is true a b h = elim (cases_lt a b) [
  | inl lt ↦ absurd (h lt)
  | inr le ↦ le
]
not_is false a b h = elim (cases_lt b a) [
  | inl lt ↦ lt
  | inr le ↦ absurd (h le)
]
