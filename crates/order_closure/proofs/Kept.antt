-- A table raised row by row: the row that is read stays, and a row in which the way says no more than its cell does stays too.
use Rattle.std.proofs.Common.{◌≡◌, ◌≢◌, ◌↔◌, ℕ, ◌+◌, ◌<◌, ◌≤◌, Bool, true, false, refl, ap, subst, sym, ◌∙◌, arith, inl, inr}
use Rattle.std.specs.Prelude.{IsTrue}
use Rattle.std.proofs.lemmas.Bool.{cases_lt}
use Rattle.order_closure.specs.declared.cell.Cell.{Cell}
use Rattle.order_closure.specs.declared.cell.Cell.TheVariants.{Free}
use Rattle.order_closure.specs.Cells.{strength, stronger, joined}
use Rattle.order_closure.specs.Tables.{AreClosed}
use Rattle.order_closure.proofs.Joining.{joined-mono, stronger_stays}
use Rattle.order_closure.proofs.Raising.{trans}

-- the cell raised by the way over this order
abbrev pub raised : (ℕ → ℕ → Cell) → ℕ → ℕ → Cell → ℕ → ℕ → Cell
raised cell from to order i j = stronger (cell i j) (joined (joined (cell i from) order) (cell to j))

-- of a table, the rows below i are raised and the others are as they were, with the row that is read
pub record AreRaisedBelow (n : ℕ) (cell : ℕ → ℕ → Cell) (from to : ℕ) (order : Cell) (i : ℕ) (now : ℕ → ℕ → Cell) : Type 0 where
  pub done : (r j : ℕ) → r < i → r < n → j < n → now r j ≡ raised cell from to order r j
  pub others : (r j : ℕ) → i ≤ r → r < n → j < n → now r j ≡ cell r j
  pub over : (j : ℕ) → j < n → now to j ≡ cell to j

-- a closed table that does not deny an order from one of its points to another
pub record CanBeRaised (n : ℕ) (cell : ℕ → ℕ → Cell) (from to : ℕ) (order : Cell) : Type 0 where
  pub closed : AreClosed n cell
  pub has_from : from < n
  pub has_to : to < n
  pub fits : strength (joined (cell to from) order) ≤ 1

module _ (n : ℕ) (cell : ℕ → ℕ → Cell) (from to : ℕ) (order : Cell) (can : CanBeRaised n cell from to order) where
  -- where the way says no more than the cell, nothing new follows
  nothing_new : (i j : ℕ) → i < n → j < n → strength (joined (cell i from) order) ≤ strength (cell i to) → raised cell from to order i j ≡ cell i j
  nothing_new i j li lj le =
      let way = joined (cell i from) order in
      stronger_stays (cell i j) (joined way (cell to j))
      (trans (joined way (cell to j)) (joined (cell i to) (cell to j)) (cell i j) (joined-mono way (cell i to) (cell to j) (cell to j) le (omega arith)) (can.closed.through i to j li can.has_to lj))

  -- from the point that the order leads to, the way says no more
  no_way_round : strength (joined (cell to from) order) ≤ strength (cell to to)
  no_way_round = subst (λ (x : Cell). strength (joined (cell to from) order) ≤ strength x) (sym (can.closed.itself to can.has_to)) can.fits

  module _ (i : ℕ) (now : ℕ → ℕ → Cell) (way : Cell) (li : i < n) (so_far : AreRaisedBelow n cell from to order i now) (is : way ≡ joined (now i from) order) where
    -- the way of a row that is not yet raised
    way_same : way ≡ joined (cell i from) order
    way_same = is ∙ (λ k. joined (so_far.others i from (omega arith) li can.has_from k) order)

    -- a row in which the way says more is not the row that is read
    pub apart : strength (now i to) < strength way → i ≢ to
    apart more e =
        let more_here : strength (cell i to) < strength (joined (cell i from) order) = rw (← so_far.others i to (omega arith) li can.has_to, ← way_same) more in
        let more_there : strength (cell to to) < strength (joined (cell to from) order) = subst (λ (r : ℕ). strength (cell r to) < strength (joined (cell r from) order)) e more_here in
        let no_more = no_way_round in omega arith

    -- a row that stays
    pub one_skipped : strength way ≤ strength (now i to) → AreRaisedBelow n cell from to order (i + 1) now
    one_skipped le =
        let no_more : strength (joined (cell i from) order) ≤ strength (cell i to) = rw (← so_far.others i to (omega arith) li can.has_to, ← way_same) le in
        record {
          done = λ r j lr in_n lj. elim (cases_lt r i) [
            | inl before ↦ so_far.done r j before in_n lj
            | inr at ↦
                let e : r ≡ i = omega arith in
                so_far.others r j at in_n lj ∙ sym (nothing_new r j in_n lj (subst (λ (m : ℕ). strength (joined (cell m from) order) ≤ strength (cell m to)) (sym e) no_more))
          ];
          others = λ r j lr in_n lj. so_far.others r j (omega arith) in_n lj;
          over = so_far.over;
        }

    -- a row that is raised
    pub one_raised : (new : ℕ → ℕ → Cell) → strength (now i to) < strength way → ((j : ℕ) → j < n → new i j ≡ stronger (now i j) (joined way (now to j)))
        → ((r j : ℕ) → r < n → j < n → r ≢ i → new r j ≡ now r j) → AreRaisedBelow n cell from to order (i + 1) new
    one_raised new more here there = record {
      done = λ r j lr in_n lj. elim (cases_lt r i) [
        | inl before ↦ there r j in_n lj (omega arith) ∙ so_far.done r j before in_n lj
        | inr at ↦
            let e : r ≡ i = omega arith in
            subst (λ (m : ℕ). new m j ≡ raised cell from to order m j) (sym e) (here j lj ∙ (λ k. stronger (so_far.others i j (omega arith) li lj k) (joined (way_same k) (so_far.over j lj k))))
      ];
      others = λ r j lr in_n lj. there r j in_n lj (omega arith) ∙ so_far.others r j (omega arith) in_n lj;
      over = λ j lj. there to j can.has_to lj (λ e. apart more (sym e)) ∙ so_far.over j lj;
    }

module _ (n : ℕ) (cell : ℕ → ℕ → Cell) (from to : ℕ) (order : Cell) where
  -- a row whose point is not before the first point is raised as it is
  free_stays : (i j : ℕ) → cell i from ≡ Free → raised cell from to order i j ≡ cell i j
  free_stays i j e = ap (λ x. stronger (cell i j) (joined (joined x order) (cell to j))) e ∙ stronger_stays (cell i j) Free (omega arith)

  -- no row is raised yet, and those below i need not be
  pub none_raised : (i : ℕ) → ((r : ℕ) → r < i → r < n → cell r from ≡ Free) → AreRaisedBelow n cell from to order i cell
  none_raised i free = record { done = λ r j lr ln _. sym (free_stays r j (free r lr ln)); others = λ r j _ _ _. refl; over = λ j _. refl }

  -- the rows below i are raised, and the others need not be
  pub all_raised : (i : ℕ) (now : ℕ → ℕ → Cell) → AreRaisedBelow n cell from to order i now → ((r : ℕ) → i ≤ r → r < n → cell r from ≡ Free)
      → (r j : ℕ) → r < n → j < n → now r j ≡ raised cell from to order r j
  all_raised i now so_far free r j lr lj = elim (cases_lt r i) [
    | inl before ↦ so_far.done r j before lr lj
    | inr at ↦ so_far.others r j at lr lj ∙ sym (free_stays r j (free r at lr))
  ]

-- a test of a smaller number that says no
pub no_smaller : (r : Bool) (a b : ℕ) → (IsTrue r ↔ (a < b)) → r ≡ false → b ≤ a
no_smaller r a b decides is = elim (cases_lt a b) [
  | inl lt ↦ let both = decides.1 lt in let clash : true ≡ false = sym both ∙ is in cc
  | inr le ↦ le
]
