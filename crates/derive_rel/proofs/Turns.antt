-- The rows of a kind in the turns of the intervals and of the relations.
use Rattle.std.proofs.Common.{◌≡◌, ◌⊎◌, inl, inr, ℕ, ◌+◌, ◌<◌, ◌≤◌, List, [], ◌∷◌, ◌++◌, length, slice_index_or, sym, ap, subst, ◌∙◌, arith}
use Rattle.std.proofs.lemmas.Bool.{cases_lt}
use Rattle.std.proofs.lemmas.List.{get_or_default}
use Rattle.net_core.specs.Rels.{all_rels}
use Rattle.net_core.specs.declared.rels.Rel.{Rel}
use Rattle.net_core.specs.declared.rels.Rel.TheVariants as rel
use Rattle.net_core.proofs.RelLaws.{in_table}
use Rattle.derive_rel.specs.Entailed.{AreAllRows}
use Rattle.derive_rel.specs.Pushing.{ArePutLast, IsFrom, IsRowOf}
use Rattle.derive_rel.specs.declared.all_rows.Row.{Row}
use Rattle.derive_rel.proofs.Joined.{all_rows, one_put, put_last, same_put}

-- a row of an interval before one
abbrev pub IsFromBelow : ℕ → Row → Type 0
IsFromBelow a row = row.a < a

-- a row of an interval and one before another
abbrev pub IsOfBelow : ℕ → ℕ → Row → Type 0
IsOfBelow a b row = (row.a ≡ a) × (row.b < b)

-- the relation of this number
abbrev pub rel_at : ℕ → Rel
rel_at k = slice_index_or all_rels k rel.Before

-- a row of two intervals and a relation
abbrev pub row_of : ℕ → ℕ → Rel → Row
row_of a b r = record { a = a; rel = r; b = b }

-- the relation of a row is one of the first
abbrev pub HasFirst : ℕ → Row → Type 0
HasFirst k row = (i : ℕ) × (i < k) × (rel_at i ≡ row.rel)

-- a row of two intervals, and one of the first relations
abbrev pub IsOfFirst : ℕ → ℕ → ℕ → Row → Type 0
IsOfFirst a b k row = (row.a ≡ a) × (row.b ≡ b) × HasFirst k row

-- each relation has a number
numbered : (r : Rel) → (i : ℕ) × (i < length all_rels) × (rel_at i ≡ r)
numbered r = let at = in_table r in (at.0, at.1, get_or_default all_rels at.0 rel.Before r at.1 ∙ at.2)

module _ (Kind : Row → Type 0) where
  module _ (a b : ℕ) where
    -- one relation more, whose row is of the kind
    pub one_relation : (before rows : List Row) (k : ℕ) (r : Rel) → k < length all_rels → rel_at k ≡ r → Kind (row_of a b r)
        → ArePutLast Kind (IsOfFirst a b k) before rows → ArePutLast Kind (IsOfFirst a b (k + 1)) before (rows ++ row_of a b r ∷ [])
    one_relation before rows k r lt at is put =
        put_last Kind (IsOfFirst a b k) (λ (other : Row). other ≡ row_of a b r) (IsOfFirst a b (k + 1)) before rows (rows ++ row_of a b r ∷ [])
        put (one_put Kind rows (row_of a b r) is)
        (λ x y is_x is_y meets same. inr (inr (
          meets.0 ∙ sym (ap (λ (row : Row). row.a) same),
          meets.1 ∙ sym (ap (λ (row : Row). row.b) same),
          (meets.2.0, k, meets.2.1, lt, meets.2.2, at ∙ sym (ap (λ (row : Row). row.rel) same)),
        )))
        (λ row is. (λ either. there row either, λ meets. here row meets))
      where
        there : (row : Row) → (IsOfFirst a b k row ⊎ (row ≡ row_of a b r)) → IsOfFirst a b (k + 1) row
        there row either = elim either [
          | inl old ↦ (old.0, old.1, (old.2.0, omega (arith, old.2.1), old.2.2))
          | inr same ↦ (ap (λ (x : Row). x.a) same, ap (λ (x : Row). x.b) same, (k, omega arith, at ∙ sym (ap (λ (x : Row). x.rel) same)))
        ]

        here : (row : Row) → IsOfFirst a b (k + 1) row → IsOfFirst a b k row ⊎ (row ≡ row_of a b r)
        here row meets = elim (cases_lt meets.2.0 k) [
          | inl old ↦ inl (meets.0, meets.1, (meets.2.0, old, meets.2.2))
          | inr last ↦
              let is : meets.2.0 ≡ k = omega (arith, last, meets.2.1) in
              let rels : row.rel ≡ r = sym meets.2.2 ∙ ap rel_at is ∙ at in
              inr (λ i. record { a = meets.0 i; rel = rels i; b = meets.1 i })
        ]

    -- one relation more, whose row is not
    pub no_relation : (before rows : List Row) (k : ℕ) (r : Rel) → rel_at k ≡ r → (Kind (row_of a b r) → ⊥)
        → ArePutLast Kind (IsOfFirst a b k) before rows → ArePutLast Kind (IsOfFirst a b (k + 1)) before rows
    no_relation before rows k r at not put =
        same_put Kind (IsOfFirst a b k) (IsOfFirst a b (k + 1)) before rows
        (λ row is. (λ old. (old.0, old.1, (old.2.0, omega (arith, old.2.1), old.2.2)), λ meets. here row is meets)) put
      where
        here : (row : Row) → Kind row → IsOfFirst a b (k + 1) row → IsOfFirst a b k row
        here row is meets = elim (cases_lt meets.2.0 k) [
          | inl old ↦ (meets.0, meets.1, (meets.2.0, old, meets.2.2))
          | inr last ↦
              let e : meets.2.0 ≡ k = omega (arith, last, meets.2.1) in
              let rels : row.rel ≡ r = sym meets.2.2 ∙ ap rel_at e ∙ at in
              let same : row ≡ row_of a b r = λ i. record { a = meets.0 i; rel = rels i; b = meets.1 i } in
              absurd (not (subst Kind same is))
        ]

    -- after the last relation
    pub last_relation : (before rows : List Row) (k : ℕ) → length all_rels ≤ k → ArePutLast Kind (IsOfFirst a b k) before rows → ArePutLast Kind (IsRowOf a b) before rows
    last_relation before rows k all put =
        same_put Kind (IsOfFirst a b k) (IsRowOf a b) before rows
        (λ row is. (λ h. (h.0, h.1), λ h. let at = numbered row.rel in (h.0, h.1, (at.0, omega (arith, at.1, all), at.2)))) put

  module _ (a : ℕ) where
    -- one interval more after it
    pub one_after : (before old new : List Row) (b : ℕ) → ArePutLast Kind (IsOfBelow a b) before old → ArePutLast Kind (IsRowOf a b) old new → ArePutLast Kind (IsOfBelow a (b + 1)) before new
    one_after before old new b first next =
        put_last Kind (IsOfBelow a b) (IsRowOf a b) (IsOfBelow a (b + 1)) before old new first next
        (λ x y is_x is_y earlier later. inr (inl (earlier.0 ∙ sym later.0, omega (arith, earlier.1, later.1))))
        (λ row is. (λ either. there row either, λ meets. here row meets))
      where
        there : (row : Row) → (IsOfBelow a b row ⊎ IsRowOf a b row) → IsOfBelow a (b + 1) row
        there row either = elim either [
          | inl less ↦ (less.0, omega (arith, less.1))
          | inr at ↦ (at.0, omega (arith, at.1))
        ]

        here : (row : Row) → IsOfBelow a (b + 1) row → IsOfBelow a b row ⊎ IsRowOf a b row
        here row meets = elim (cases_lt row.b b) [
          | inl less ↦ inl (meets.0, less)
          | inr not ↦ inr (meets.0, omega (arith, meets.1, not))
        ]

    -- after the last interval
    pub last_after : (before rows : List Row) (b : ℕ) → ((row : Row) → Kind row → row.b < b) → ArePutLast Kind (IsOfBelow a b) before rows → ArePutLast Kind (IsFrom a) before rows
    last_after before rows b all put =
        same_put Kind (IsOfBelow a b) (IsFrom a) before rows (λ row is. (λ meets. meets.0, λ at. (at, all row is))) put

  -- one interval more
  pub one_interval : (before old new : List Row) (a : ℕ) → ArePutLast Kind (IsFromBelow a) before old → ArePutLast Kind (IsFrom a) old new → ArePutLast Kind (IsFromBelow (a + 1)) before new
  one_interval before old new a first next =
      put_last Kind (IsFromBelow a) (IsFrom a) (IsFromBelow (a + 1)) before old new first next
      (λ x y is_x is_y earlier later. inl (omega (arith, earlier, later)))
      (λ row is. (λ either. there row either, λ meets. here row meets))
    where
      there : (row : Row) → (IsFromBelow a row ⊎ IsFrom a row) → IsFromBelow (a + 1) row
      there row either = elim either [
        | inl less ↦ omega (arith, less)
        | inr at ↦ omega (arith, at)
      ]

      here : (row : Row) → IsFromBelow (a + 1) row → IsFromBelow a row ⊎ IsFrom a row
      here row meets = elim (cases_lt row.a a) [
        | inl less ↦ inl less
        | inr not ↦ inr (omega (arith, meets, not))
      ]

  -- after the last interval
  pub last_interval : (rows : List Row) (a : ℕ) → ((row : Row) → Kind row → row.a < a) → ArePutLast Kind (IsFromBelow a) [] rows → AreAllRows Kind rows
  last_interval rows a all put = all_rows Kind (IsFromBelow a) rows all put
