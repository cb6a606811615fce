-- By closed cells, a test tells which base relations can hold between any two intervals.
use Rattle.std.proofs.Common.{◌≡◌, ◌↔◌, ◌⊎◌, inl, inr, ℕ, ◌+◌, ◌*◌, ◌<◌, ◌≤◌, Bool, true, false, arith}
use Rattle.std.proofs.lemmas.Bool.{cases_lt}
use Rattle.net_core.specs.declared.rels.Rel.{Rel}
use Rattle.order_closure.specs.Tables.{AreClosed, AreCellsKept}
use Rattle.order_closure.specs.declared.cell.Cell.{Cell}
use Rattle.possible_answers.specs.Matrix.{RelTest}
use Rattle.tml_possible.specs.Possible.{HoldsInSome}
use Rattle.tml_possible.proofs.Deciding.{can_hold_test, can_hold_told}

module _ (n : ℕ) (cell : ℕ → ℕ → Cell) (closed : AreClosed n cell) where
  abbrev pub can_by : (a b : ℕ) → Rel → (2 * a + 1 < n) ⊎ (n ≤ 2 * a + 1) → (2 * b + 1 < n) ⊎ (n ≤ 2 * b + 1) → Bool
  can_by a b r (inl fa) (inl fb) = can_hold_test n cell closed a b fa fb r
  can_by a b r x y = false

  -- the test, which says no of what is no interval
  abbrev pub can_of : RelTest
  can_of a r b = can_by a b r (cases_lt (2 * a + 1) n) (cases_lt (2 * b + 1) n)

  told_by : (a b : ℕ) (r : Rel) (x : (2 * a + 1 < n) ⊎ (n ≤ 2 * a + 1)) (y : (2 * b + 1 < n) ⊎ (n ≤ 2 * b + 1)) → 2 * a + 1 < n → 2 * b + 1 < n → (can_by a b r x y ≡ true) ↔ HoldsInSome (AreCellsKept n cell) a r b
  told_by a b r (inl fa) (inl fb) la lb = can_hold_told n cell closed a b fa fb r
  told_by a b r (inl fa) (inr past) la lb = absurd (omega (arith, lb, past))
  told_by a b r (inr past) y la lb = absurd (omega (arith, la, past))

  pub can_of_told : (a : ℕ) (r : Rel) (b : ℕ) → 2 * a + 1 < n → 2 * b + 1 < n → (can_of a r b ≡ true) ↔ HoldsInSome (AreCellsKept n cell) a r b
  can_of_told a r b la lb = told_by a b r (cases_lt (2 * a + 1) n) (cases_lt (2 * b + 1) n) la lb
