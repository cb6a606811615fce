-- The points in their turns: those with the most points after them first.
use Rattle.std.proofs.Common.{◌≡◌, ℕ, ◌+◌, ◌<◌, ◌≤◌, Bool, false, List, [], ◌∷◌, ◌++◌, length, get_or, ap, ◌∙◌, refl, arith, below_more}
use Rattle.std.proofs.Common.{is_lt, nat_cmp}
use Rattle.std.specs.List.{All, Contains}
use Rattle.std.specs.List.Sorted.{IsPermutation, IsSortedByKey}
use Rattle.std.proofs.lemmas.List.{get_or_default}
use Rattle.std.proofs.lemmas.List.Elements.{All-push, Contains-append_left, Contains-push}
use Rattle.std.proofs.lemmas.List.Sorted.{All-permutation, Contains-permutation, IsStrictWeakOrder-flip, ranks_by, sorted_far}
use Rattle.std.proofs.lemmas.Bool.Decides.{nat_tests}
use Rattle.std.proofs.lemmas.Cmp.{nat_cmp_total}
use Rattle.order_closure.specs.Cells.{strength, joined}
use Rattle.order_closure.specs.Counting.{is_strict}
use Rattle.order_closure.specs.Tables.{AreClosed}
use Rattle.order_closure.specs.declared.cell.Cell.{Cell}
use Rattle.order_closure.specs.declared.cell.Cell.TheVariants.{Strict}
use Rattle.order_closure.proofs.Counting.{count-more}
use Rattle.order_closure.proofs.Ranking.{is_strict_at, strict_from}
use Rattle.timeline.specs.Ranking.{AreCounted, AreInTurn, IsCounted, after_count, counted_at}
use Rattle.timeline.specs.declared.ranking.Counted.{Counted}

-- one point more is counted
pub counted_more : (n k : ℕ) (cell : ℕ → ℕ → Cell) (turns : List Counted) → k < n
    → All (IsCounted n cell) turns → ((p : ℕ) → p < k → Contains turns (counted_at n cell p))
    → All (IsCounted n cell) (turns ++ counted_at n cell k ∷ []) × ((p : ℕ) → p < k + 1 → Contains (turns ++ counted_at n cell k ∷ []) (counted_at n cell p))
counted_more n k cell turns lt right whole =
    let this : IsCounted n cell (counted_at n cell k) = (lt, refl) in (
      All-push (IsCounted n cell) turns (counted_at n cell k) right this,
      below_more (λ (p : ℕ). Contains (turns ++ counted_at n cell k ∷ []) (counted_at n cell p)) k (λ p below. Contains-append_left turns (counted_at n cell k ∷ []) (counted_at n cell p) (whole p below)) (Contains-push turns (counted_at n cell k)),
    )

-- a sort leaves the points counted
pub counted_sorted : (n : ℕ) (cell : ℕ → ℕ → Cell) (turns sorted : List Counted) → IsPermutation turns sorted → AreCounted n cell turns → AreCounted n cell sorted
counted_sorted n cell turns sorted moved h = record {
  right = All-permutation (IsCounted n cell) turns sorted moved h.right;
  whole = λ p lp. Contains-permutation turns sorted (counted_at n cell p) moved (h.whole p lp);
}

-- a number that is not below another one
no_later : (a b : ℕ) → is_lt (nat_cmp a b) ≡ false → b ≤ a
no_later a b e = grind (arith, nat_tests)

-- a sort by the number of points after puts those with the most first
pub most_first : (turns : List Counted) → IsSortedByKey (λ (turn : Counted). turn.after) (λ x y. nat_cmp y x) turns → AreInTurn turns
most_first turns sorted i j d le lj =
    let later : Counted → Counted → Bool = λ x y. is_lt (nat_cmp x.after y.after) in
    no_later _ _ (sorted_far (λ x y. later y x) (IsStrictWeakOrder-flip later (ranks_by nat_cmp_total (λ (turn : Counted). turn.after))) turns sorted i j d le lj)

module _ (n : ℕ) (cell : ℕ → ℕ → Cell) (closed : AreClosed n cell) where
  -- what is after the second point is after the first
  after_passed : (p q r : ℕ) → p < n → q < n → r < n → cell p q ≡ Strict → cell q r ≡ Strict → cell p r ≡ Strict
  after_passed p q r lp lq lr s t =
      let h : strength (joined (cell p q) (cell q r)) ≤ strength (cell p r) = closed.through p q r lp lq lr in
      strict_from (cell p r) (rw (s, t) at h)

  -- of two points of which one is before the other, that one has more points after it
  pub more_after : (p q : ℕ) → p < n → q < n → cell p q ≡ Strict → after_count n cell q < after_count n cell p
  more_after p q lp lq s = count-more (λ r. is_strict (cell q r)) (λ r. is_strict (cell p r)) n q lq (ap is_strict (closed.itself q lq)) (ap is_strict s)
      (λ r lr h. ap is_strict (after_passed p q r lp lq lr s (is_strict_at _ h)))

-- the points of m turns: each point of the table has a turn, and those with the most points after them come first
pub record AreTurns (n : ℕ) (cell : ℕ → ℕ → Cell) (m : ℕ) (point : ℕ → ℕ) : Type 0 where
  pub inside : (j : ℕ) → j < m → point j < n
  pub falls : (i j : ℕ) → i ≤ j → j < m → after_count n cell (point j) ≤ after_count n cell (point i)
  pub whole : (p : ℕ) → p < n → (j : ℕ) × (j < m) × (point j ≡ p)

-- the point of a turn
abbrev pub point_at : List Counted → ℕ → ℕ
point_at turns j = (get_or turns j (record { after = 0; point = 0 })).point

-- counted points in order are turns
pub turns_are : (n : ℕ) (cell : ℕ → ℕ → Cell) (turns : List Counted) → AreCounted n cell turns → AreInTurn turns → AreTurns n cell (length turns) (point_at turns)
turns_are n cell turns counted sorted =
    let none : Counted = record { after = 0; point = 0 } in
    record {
      inside = λ j lj. (counted.right j none lj).0;
      falls = λ i j le lj.
          let first = (counted.right i none (omega arith)).1 in
          let second = (counted.right j none lj).1 in
          let order = sorted i j none le lj in
          omega arith;
      whole = λ p lp. let found = counted.whole p lp in (found.0, found.1, ap (λ (u : Counted). u.point) (get_or_default turns found.0 none (counted_at n cell p) found.1 ∙ found.2));
    }
