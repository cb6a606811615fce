-- All rows that meet a condition make a list, where it is decided and only rows of intervals below a number meet it.
use Rattle.std.proofs.Common.{ℕ, zero, suc, ◌+◌, ◌<◌, List, [], ◌∷◌, ◌++◌, length, refl, subst, add-one, arith}
use Rattle.net_core.specs.Rels.{all_rels}
use Rattle.derive_rel.specs.Entailed.{AreAllRows}
use Rattle.derive_rel.specs.Pushing.{ArePutLast, IsFrom, IsRowOf}
use Rattle.derive_rel.specs.declared.all_rows.Row.{Row}
use Rattle.derive_rel.proofs.Joined.{none_put}
use Rattle.derive_rel.proofs.Turns.{IsFromBelow, IsOfBelow, IsOfFirst, last_after, last_interval, last_relation, no_relation, one_after, one_interval, one_relation, rel_at, row_of}

-- where some rows meet condition 0, and from rows that meet one condition a turn leads to some that meet the next, some meet condition n
in_turns : (P : ℕ → List Row → Type 0) (n : ℕ) → ((rows : List Row) × P 0 rows) → ((k : ℕ) (rows : List Row) → k < n → P k rows → (more : List Row) × P (k + 1) more) → (rows : List Row) × P n rows
in_turns P zero first turn = first
in_turns P (suc n) first turn =
    let before = in_turns P n first (λ k rows less. turn k rows (omega arith)) in
    let last = turn n before.0 (omega arith) before.1 in
    (last.0, subst (λ (k : ℕ). P k last.0) (add-one n) last.1)

module _ (Meets : Row → Type 0) (n : ℕ) (decided : (row : Row) → Dec (Meets row)) (within : (row : Row) → Meets row → (row.a < row.b) × (row.b < n)) where
  -- those of two intervals, put after some rows
  of_two : (a b : ℕ) (before : List Row) → (rows : List Row) × ArePutLast Meets (IsRowOf a b) before rows
  of_two a b before =
      let all = in_turns (λ k rows. ArePutLast Meets (IsOfFirst a b k) before rows) (length all_rels) (before, none_put Meets (IsOfFirst a b 0) before (λ row meets first. absurd (omega (arith, first.2.1)))) turn in
      (all.0, last_relation Meets a b before all.0 (length all_rels) (omega arith) all.1)
    where
      turn : (k : ℕ) (rows : List Row) → k < length all_rels → ArePutLast Meets (IsOfFirst a b k) before rows → (more : List Row) × ArePutLast Meets (IsOfFirst a b (k + 1)) before more
      turn k rows less put = elim (decided (row_of a b (rel_at k))) [
        | yes meets ↦ (rows ++ row_of a b (rel_at k) ∷ [], one_relation Meets a b before rows k (rel_at k) less refl meets put)
        | no never ↦ (rows, no_relation Meets a b before rows k (rel_at k) refl never put)
      ]

  -- those of an interval
  of_one : (a : ℕ) (before : List Row) → (rows : List Row) × ArePutLast Meets (IsFrom a) before rows
  of_one a before =
      let all = in_turns (λ b rows. ArePutLast Meets (IsOfBelow a b) before rows) n (before, none_put Meets (IsOfBelow a 0) before (λ row meets below. absurd (omega (arith, below.1))))
      (λ b rows less put. let next = of_two a b rows in (next.0, one_after Meets a before rows next.0 b put next.1)) in
      (all.0, last_after Meets a before all.0 n (λ row meets. (within row meets).1) all.1)

  pub all_there : (rows : List Row) × AreAllRows Meets rows
  all_there =
      let all = in_turns (λ a rows. ArePutLast Meets (IsFromBelow a) [] rows) n ([], none_put Meets (IsFromBelow 0) [] (λ row meets below. absurd (omega (arith, below))))
      (λ a rows less put. let next = of_one a rows in (next.0, one_interval Meets [] rows next.0 a put next.1)) in
      (all.0, last_interval Meets all.0 n (λ row meets. let is = within row meets in omega (arith, is.0, is.1)) all.1)
