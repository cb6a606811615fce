-- Sets of base relations that grow.
use Rattle.std.proofs.Common.{◌≡◌, ◌↔◌, ◌&&◌, inl, inr, ℕ, ◌+◌, ◌*◌, ◌<◌, ◌≤◌, Bool, true, false, Option, Some, None, IfSome, List, length, get_or, take, refl, sym, ap, subst, ◌∙◌, arith}
use Rattle.std.specs.Prelude.{IsTrue, bit_and, slice_index}
use Rattle.std.specs.Int.{bit_at}
use Rattle.std.specs.List.{Contains}
use Rattle.std.proofs.lemmas.Bool.{cases_eq}
use Rattle.net_core.specs.BaseRelations.{base_rels}
use Rattle.net_core.specs.Relations.{Holds}
use Rattle.net_core.specs.Rels.{all_rels}
use Rattle.net_core.specs.declared.atom.End.TheVariants.{Start, Finish}
use Rattle.net_core.specs.declared.net.Ends.{Ends}
use Rattle.net_core.specs.declared.rels.Rel.{Rel}
use Rattle.net_core.specs.declared.rels.Rel.TheVariants as rel
use Rattle.net_core.proofs.RelLaws.{in_table}
use Rattle.order_closure.specs.Between.{AreGiven}
use Rattle.order_closure.specs.Cells.{CellSays}
use Rattle.order_closure.specs.Tables.{IsClosed, Table, cell_at}
use Rattle.order_closure.specs.declared.cell.Cell.TheVariants.{Strict}
use Rattle.tml_possible.specs.Examples.{false_orders}
use Rattle.tml_possible.specs.Possible.{CanHold}
use Rattle.tml_possible.specs.Sets.{AreMore, IsSetOf, base_number, has}
use Rattle.tml_possible.specs.Trying.{AreKeptAmong, AreKeptFrom, end_ranks}
use Rattle.tml_possible.specs.declared.base_set.BaseSet.{BaseSet}
use Rattle.tml_possible.specs.declared.possible_sets.TheConstants.{FALSE_ORDERS}
use Rattle.tml_possible.proofs.Bases.{base_is_numbered, has_bit, none_there, not_numbered, numbered, numbered_is_base}
use Rattle.tml_possible.proofs.FalseOrders.{not_denied_can}
use Rattle.tml_possible.proofs.Lists.{there_further}
use Rattle.tml_possible.proofs.Placing.{can_hold}
use Rattle.tml_possible.proofs.Ranks.{found}

-- ---- the relations that hold of ranks

module _ (P : Rel → Type 0) (set : BaseSet) (k : ℕ) (x : Rel) (lt : k < length all_rels) (is : get_or all_rels k rel.Before ≡ x) (old : BaseSet) (so_far : AreMore set (λ r. Contains (take k all_rels) r × P r) old) where
  -- a relation more that has the property
  pub further : (new : BaseSet) → AreMore old (λ r. r ≡ x) new → P x → AreMore set (λ r. Contains (take (k + 1) all_rels) r × P r) new
  further new more holds r =
      let there = there_further all_rels k x r lt is in (
        λ h. elim ((more r).0 h) [
          | inl before ↦ elim ((so_far r).0 before) [
            | inl first ↦ inl first
            | inr both ↦ inr (both.0, (there.1 (inl both.1.0), both.1.1))
          ]
          | inr here ↦ inr (here.0, (there.1 (inr here.1), subst P (sym here.1) holds))
        ],
        λ h. (more r).1 (elim h [
          | inl first ↦ inl ((so_far r).1 (inl first))
          | inr both ↦ elim (there.0 both.1.0) [
            | inl before ↦ inl ((so_far r).1 (inr (both.0, (before, both.1.1))))
            | inr here ↦ inr (both.0, here)
          ]
        ]),
      )

  -- and one that has it not
  pub no_further : ¬ P x → AreMore set (λ r. Contains (take (k + 1) all_rels) r × P r) old
  no_further not r =
      let there = there_further all_rels k x r lt is in (
        λ h. elim ((so_far r).0 h) [
          | inl first ↦ inl first
          | inr both ↦ inr (both.0, (there.1 (inl both.1.0), both.1.1))
        ],
        λ h. (so_far r).1 (elim h [
          | inl first ↦ inl first
          | inr both ↦ elim (there.0 both.1.0) [
            | inl before ↦ inr (both.0, (before, both.1.1))
            | inr here ↦ absurd (not (subst P here both.1.1))
          ]
        ]),
      )

-- all relations
pub all_taken : (P : Rel → Type 0) (set new : BaseSet) (rels : List Rel) → rels ≡ all_rels → AreMore set (λ r. Contains rels r × P r) new → AreMore set P new
all_taken P set new rels e more r = (
  λ h. elim ((more r).0 h) [
    | inl first ↦ inl first
    | inr both ↦ inr (both.0, both.1.1)
  ],
  λ h. (more r).1 (elim h [
    | inl first ↦ inl first
    | inr both ↦ inr (both.0, (subst (λ (xs : List Rel). Contains xs r) (sym e) (in_table r), both.1))
  ]),
)

-- ---- all ranks below 4

-- the relation holds of ranks with a number below this one, which the cells allow
abbrev HoldsBelow : Table → ℕ → ℕ → ℕ → Rel → Type 0
HoldsBelow table a b code r = (n : ℕ) × (n < code) × AreKeptAmong table a b (end_ranks n).0 (end_ranks n).1 × Holds (end_ranks n).0 r (end_ranks n).1

module _ (table : Table) (a b code : ℕ) (set : BaseSet) (so_far : IsSetOf (HoldsBelow table a b code) set) where
  pub kept_next : (new : BaseSet) → AreKeptAmong table a b (end_ranks code).0 (end_ranks code).1 → AreMore set (λ r. Holds (end_ranks code).0 r (end_ranks code).1) new → IsSetOf (HoldsBelow table a b (code + 1)) new
  kept_next new kept more r = (
    λ h. elim ((more r).0 h) [
      | inl before ↦ let (base, (n, lt, kept, holds)) = (so_far r).0 before in (base, (n, omega (arith, lt), kept, holds))
      | inr here ↦ (here.0, (code, omega arith, kept, here.1))
    ],
    λ h. (more r).1 (elim (cases_eq h.1.0 code) [
      | inl same ↦ inr (h.0, subst (λ (n : ℕ). Holds (end_ranks n).0 r (end_ranks n).1) same h.1.3)
      | inr other ↦ inl ((so_far r).1 (h.0, (h.1.0, omega (arith, h.1.1, other), h.1.2, h.1.3)))
    ]),
  )

  pub not_kept_next : ¬ AreKeptAmong table a b (end_ranks code).0 (end_ranks code).1 → IsSetOf (HoldsBelow table a b (code + 1)) set
  not_kept_next not r = (
    λ h. let (base, (n, lt, kept, holds)) = (so_far r).0 h in (base, (n, omega (arith, lt), kept, holds)),
    λ h. elim (cases_eq h.1.0 code) [
      | inl same ↦ absurd (not (subst (λ (n : ℕ). AreKeptAmong table a b (end_ranks n).0 (end_ranks n).1) same h.1.2))
      | inr other ↦ (so_far r).1 (h.0, (h.1.0, omega (arith, h.1.1, other), h.1.2, h.1.3))
    ],
  )

-- all of them are tried
pub all_tried : (table : Table) (a b code : ℕ) (set : BaseSet) → IsClosed table → 2 * a + 1 < table.points → 2 * b + 1 < table.points → 256 ≤ code → IsSetOf (HoldsBelow table a b code) set → IsSetOf (λ r. CanHold table a r b) set
all_tried table a b code set closed fa fb at are r = (
  λ h. let (base, (n, lt, kept, holds)) = (are r).0 h in (base, can_hold table a b closed fa fb (end_ranks n).0 (end_ranks n).1 kept r holds),
  λ h.
      let (base, (t, kept, holds)) = h in
      let (n, lt, allowed, here) = found t a b table fa fb kept r holds in
      (are r).1 (base, (n, omega (arith, lt, at), allowed, here)),
)

-- ---- cells of two intervals

all_four : (r s u v : Bool) → IsTrue (((r && s) && u) && v) ↔ (IsTrue r × IsTrue s × IsTrue u × IsTrue v)
all_four true true true true = (λ h. (refl, refl, refl, refl), λ h. refl)
all_four true true true false = (λ h. let e : false ≡ true = h in cc, λ h. h.3)
all_four true true false v = (λ h. let e : false ≡ true = h in cc, λ h. let e = h.2 in cc)
all_four true false u v = (λ h. let e : false ≡ true = h in cc, λ h. let e = h.1 in cc)
all_four false s u v = (λ h. let e : false ≡ true = h in cc, λ h. let e = h.0 in cc)

pub points_kept : (table : Table) (a b : ℕ) (x y : Ends) (r s u v : Bool)
    → (IsTrue r ↔ CellSays (cell_at table (2 * a) (2 * b)) x.start y.start) → (IsTrue s ↔ CellSays (cell_at table (2 * a) (2 * b + 1)) x.start y.finish)
    → (IsTrue u ↔ CellSays (cell_at table (2 * a + 1) (2 * b)) x.finish y.start) → (IsTrue v ↔ CellSays (cell_at table (2 * a + 1) (2 * b + 1)) x.finish y.finish)
    → IsTrue (((r && s) && u) && v) ↔ AreKeptFrom table a b x y
points_kept table a b x y r s u v starts back across finishes = (
  λ h. let all = (all_four r s u v).0 h in each (starts.0 all.0) (back.0 all.1) (across.0 all.2) (finishes.0 all.3),
  λ kept. (all_four r s u v).1 (starts.1 (kept Start Start), back.1 (kept Start Finish), across.1 (kept Finish Start), finishes.1 (kept Finish Finish)),
)
  where
    each : CellSays (cell_at table (2 * a) (2 * b)) x.start y.start → CellSays (cell_at table (2 * a) (2 * b + 1)) x.start y.finish → CellSays (cell_at table (2 * a + 1) (2 * b)) x.finish y.start → CellSays (cell_at table (2 * a + 1) (2 * b + 1)) x.finish y.finish
        → AreKeptFrom table a b x y
    each ss sf fs ff Start Start = ss
    each ss sf fs ff Start Finish = sf
    each ss sf fs ff Finish Start = fs
    each ss sf fs ff Finish Finish = ff

pub intervals_kept : (table : Table) (a b : ℕ) (x y : Ends) (r s u v : Bool) → (IsTrue r ↔ AreKeptFrom table a a x x) → (IsTrue s ↔ AreKeptFrom table a b x y) → (IsTrue u ↔ AreKeptFrom table b a y x) → (IsTrue v ↔ AreKeptFrom table b b y y)
    → IsTrue (((r && s) && u) && v) ↔ AreKeptAmong table a b x y
intervals_kept table a b x y r s u v first forth back second = (
  λ h. let all = (all_four r s u v).0 h in record { first = first.0 all.0; forth = forth.0 all.1; back = back.0 all.2; second = second.0 all.3 },
  λ kept. (all_four r s u v).1 (first.1 kept.first, forth.1 kept.forth, back.1 kept.back, second.1 kept.second),
)

-- ---- orders that are not denied

-- the table of orders says what its definition says
table_tells : (r : Rel) → IfSome (base_number r) (λ k. (k < 13) × (slice_index FALSE_ORDERS k ≡ false_orders r))
table_tells rel.Before = (omega arith, refl)
table_tells rel.After = (omega arith, refl)
table_tells rel.Includes = (omega arith, refl)
table_tells rel.IsIncluded = (omega arith, refl)
table_tells rel.Simultaneous = (omega arith, refl)
table_tells rel.Ibefore = (omega arith, refl)
table_tells rel.Iafter = (omega arith, refl)
table_tells rel.Begins = (omega arith, refl)
table_tells rel.BegunBy = (omega arith, refl)
table_tells rel.Ends = (omega arith, refl)
table_tells rel.EndedBy = (omega arith, refl)
table_tells rel.Overlaps = (omega arith, refl)
table_tells rel.OverlappedBy = (omega arith, refl)
table_tells rel.During = tt
table_tells rel.DuringInv = tt
table_tells rel.Identity = tt

-- so the bits of base relations that are not denied are those that can hold
pub not_denied_set : (table : Table) (a b given bits : ℕ) → IsClosed table → AreGiven table a b given → 2 * a + 1 < table.points → 2 * b + 1 < table.points
    → cell_at table (2 * a) (2 * a + 1) ≡ Strict → cell_at table (2 * b) (2 * b + 1) ≡ Strict → ((k : ℕ) → (bit_at bits k ≡ 1) ↔ ((k < 13) × (bit_and given (slice_index FALSE_ORDERS k) ≡ 0)))
    → IsSetOf (λ r. CanHold table a r b) (record { bits = bits })
not_denied_set table a b given bits closed are fa fb first second set r = by (base_number r) refl
  where
    new : BaseSet
    new = record { bits = bits }

    by : (o : Option ℕ) → base_number r ≡ o → (has new r ≡ true) ↔ (Contains base_rels r × CanHold table a r b)
    by None e = (
      λ h. let both : true ≡ false = sym h ∙ not_numbered new r e in cc,
      λ h. absurd (none_there (base_number r) e (base_is_numbered r h.0)),
    )
    by (Some k) e =
        let tells : (k < 13) × (slice_index FALSE_ORDERS k ≡ false_orders r) = subst (λ (o : Option ℕ). IfSome o (λ k. (k < 13) × (slice_index FALSE_ORDERS k ≡ false_orders r))) e (table_tells r) in
        let base = numbered_is_base r (numbered r k e) in
        let can = not_denied_can table a b given closed are fa fb first second r base in (
          λ h. (base, can.0 (ap (bit_and given) (sym tells.1) ∙ ((set k).0 ((has_bit new r k e).0 h)).1)),
          λ h. (has_bit new r k e).1 ((set k).1 (tells.0, ap (bit_and given) tells.1 ∙ can.1 h.1)),
        )
