-- Rows of a kind that come after others.
use Rattle.std.proofs.Common.{◌≡◌, ◌⊎◌, ◌↔◌, inl, inr, ℕ, ◌+◌, ◌-◌, ◌<◌, ◌≤◌, List, [], ◌∷◌, ◌++◌, length, refl, sym, ap, subst, ◌∙◌, arith, length-append, append-nil, append_assoc}
use Rattle.std.proofs.lemmas.Bool.{cases_lt}
use Rattle.std.proofs.lemmas.List.{get_or_append_left, get_or-append_right}
use Rattle.std.proofs.lemmas.List.Elements.{All-append, All-cons, All-nil, All-weaker, Contains-append_left, Contains-append_right}
use Rattle.net_core.specs.declared.rels.Rel.TheVariants as rel
use Rattle.derive_rel.specs.Entailed.{AreAllRows, ComesBefore, row_at}
use Rattle.derive_rel.specs.Pushing.{ArePutLast, AreRowsWhere}
use Rattle.derive_rel.specs.declared.all_rows.Row.{Row}

-- what `row_at` reads after the last row
abbrev default : Row
default = record { a = 0; rel = rel.Before; b = 0 }

-- the first rows of a list and another one are those of the list
left : (xs ys : List Row) (k : ℕ) → k < length xs → row_at (xs ++ ys) k ≡ row_at xs k
left xs ys k lt = get_or_append_left xs ys default k lt

-- and the rest are those of the other one
right : (xs ys : List Row) (k : ℕ) → length xs ≤ k → row_at (xs ++ ys) k ≡ row_at ys (k - length xs)
right xs ys k ge = get_or-append_right xs ys (length xs) k default refl ge

module _ (Kind : Row → Type 0) where
  -- one row
  pub one_row : (row : Row) → Kind row → AreRowsWhere Kind (λ (other : Row). other ≡ row) (row ∷ [])
  one_row row is = record {
    right = All-cons (λ (other : Row). Kind other × (other ≡ row)) row [] (is, refl) (All-nil (λ (other : Row). Kind other × (other ≡ row)));
    whole = λ other both. (0, omega arith, sym both.1);
    sorted = λ k lt. absurd (omega arith);
  }

  -- another condition that the same rows meet
  pub same_rows : (P Q : Row → Type 0) (rows : List Row) → ((row : Row) → Kind row → P row ↔ Q row) → AreRowsWhere Kind P rows → AreRowsWhere Kind Q rows
  same_rows P Q rows same are = record {
    right = All-weaker (λ (row : Row). Kind row × P row) (λ (row : Row). Kind row × Q row) (λ row both. (both.0, (same row both.0).0 both.1)) rows are.right;
    whole = λ row both. are.whole row (both.0, (same row both.0).1 both.1);
    sorted = are.sorted;
  }

  module _ (P Q : Row → Type 0) (xs ys : List Row) (first : AreRowsWhere Kind P xs) (next : AreRowsWhere Kind Q ys) (turn : (x y : Row) → Kind x → Kind y → P x → Q y → ComesBefore x y) where
    -- rows that are in order stay so where all of the first come before the next
    in_turn : (k : ℕ) → k + 1 < length (xs ++ ys) → ComesBefore (row_at (xs ++ ys) k) (row_at (xs ++ ys) (k + 1))
    in_turn k lt = elim (cases_lt (k + 1) (length xs)) [
      | inl less ↦ subst (λ (x : Row). ComesBefore x (row_at (xs ++ ys) (k + 1))) (sym (left xs ys k (omega (arith, less))))
          (subst (λ (y : Row). ComesBefore (row_at xs k) y) (sym (left xs ys (k + 1) less)) (first.sorted k less))
      | inr not ↦ elim (cases_lt k (length xs)) [
        | inl last ↦
            let x = first.right k default last in
            let at : k + 1 - length xs < length ys = omega (arith, not, last, lt, length-append xs ys) in
            let y = next.right (k + 1 - length xs) default at in
            subst (λ (x : Row). ComesBefore x (row_at (xs ++ ys) (k + 1))) (sym (left xs ys k last))
            (subst (λ (y : Row). ComesBefore (row_at xs k) y) (sym (right xs ys (k + 1) not)) (turn (row_at xs k) (row_at ys (k + 1 - length xs)) x.0 y.0 x.1 y.1))
        | inr past ↦
            let at : k - length xs + 1 < length ys = omega (arith, past, lt, length-append xs ys) in
            let is : k + 1 - length xs ≡ k - length xs + 1 = omega (arith, past) in
            subst (λ (x : Row). ComesBefore x (row_at (xs ++ ys) (k + 1))) (sym (right xs ys k past))
            (subst (λ (y : Row). ComesBefore (row_at ys (k - length xs)) y) (sym (right xs ys (k + 1) not ∙ ap (row_at ys) is)) (next.sorted (k - length xs) at))
      ]
    ]

    -- the rows that meet either condition
    pub joined_rows : (R : Row → Type 0) → ((row : Row) → Kind row → (P row ⊎ Q row) ↔ R row) → AreRowsWhere Kind R (xs ++ ys)
    joined_rows R both = record {
      right = All-append (λ (row : Row). Kind row × R row) xs ys
          (All-weaker (λ (row : Row). Kind row × P row) (λ (row : Row). Kind row × R row) (λ row h. (h.0, (both row h.0).0 (inl h.1))) xs first.right)
          (All-weaker (λ (row : Row). Kind row × Q row) (λ (row : Row). Kind row × R row) (λ row h. (h.0, (both row h.0).0 (inr h.1))) ys next.right);
      whole = λ row meets. elim ((both row meets.0).1 meets.1) [
        | inl old ↦ Contains-append_left xs ys row (first.whole row (meets.0, old))
        | inr new ↦ Contains-append_right xs ys row (next.whole row (meets.0, new))
      ];
      sorted = in_turn;
    }

  -- rows that come after those that were put last are put last
  pub put_last : (P Q R : Row → Type 0) (before old new : List Row) → ArePutLast Kind P before old → ArePutLast Kind Q old new
      → ((x y : Row) → Kind x → Kind y → P x → Q y → ComesBefore x y) → ((row : Row) → Kind row → (P row ⊎ Q row) ↔ R row) → ArePutLast Kind R before new
  put_last P Q R before old new first next turn both =
      (first.0 ++ next.0, next.1 ∙ ap (λ (rows : List Row). rows ++ next.0) first.1 ∙ append_assoc before first.0 next.0, joined_rows P Q first.0 next.0 first.2 next.2 turn R both)

  -- where no row of the kind meets a condition, none is put last
  pub none_put : (P : Row → Type 0) (rows : List Row) → ((row : Row) → Kind row → P row → ⊥) → ArePutLast Kind P rows rows
  none_put P rows none = (
    [],
    sym (append-nil rows),
    record {
      right = All-nil (λ (row : Row). Kind row × P row);
      whole = λ row both. absurd (none row both.0 both.1);
      sorted = λ k lt. absurd (omega arith);
    },
  )

  -- one row is put last
  pub one_put : (rows : List Row) (row : Row) → Kind row → ArePutLast Kind (λ (other : Row). other ≡ row) rows (rows ++ row ∷ [])
  one_put rows row is = (row ∷ [], refl, one_row row is)

  -- rows that are put last, by another condition that the same rows meet
  pub same_put : (P Q : Row → Type 0) (old new : List Row) → ((row : Row) → Kind row → P row ↔ Q row) → ArePutLast Kind P old new → ArePutLast Kind Q old new
  same_put P Q old new same put = (put.0, put.1, same_rows P Q put.0 same put.2)

  -- where all rows of the kind are put after none, they are all
  pub all_rows : (P : Row → Type 0) (rows : List Row) → ((row : Row) → Kind row → P row) → ArePutLast Kind P [] rows → AreAllRows Kind rows
  all_rows P rows all put = subst (AreAllRows Kind) (sym put.1) (record {
    right = All-weaker (λ (row : Row). Kind row × P row) Kind (λ row both. both.0) put.0 put.2.right;
    whole = λ row is. put.2.whole row (is, all row is);
    sorted = put.2.sorted;
  })
