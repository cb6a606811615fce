-- By closed cells each base relation of two intervals has the least timeline in which it holds, or holds in none.
use Rattle.std.proofs.Common.{◌≡◌, ◌↔◌, ◌⊎◌, inl, inr, ℕ, ◌+◌, ◌*◌, ◌<◌, Bool, true, false, List, [], ◌∷◌, refl, sym, ap, ◌∙◌}
use Rattle.std.specs.Prelude.{cond}
use Rattle.std.specs.List.{All, AllByRecursion, filter}
use Rattle.std.proofs.lemmas.List.Elements.{All-cons, All-nil}
use Rattle.net_core.specs.Atoms.{IsInRange, Satisfies, atom_between, atoms_of, orders_of, points_of}
use Rattle.net_core.specs.BaseRelations.{base_rels}
use Rattle.net_core.specs.Least.{AreLeast}
use Rattle.net_core.specs.Ranks.{timeline_of}
use Rattle.net_core.specs.Relations.{Relates, Timeline}
use Rattle.net_core.specs.declared.atom.Atom.{Atom}
use Rattle.net_core.specs.declared.rels.Rel.{Rel}
use Rattle.net_core.proofs.AtomLaws.{all_mapped, atoms_say_the_relation}
use Rattle.order_closure.specs.Cells.{stronger}
use Rattle.order_closure.specs.Tables.{AreClosed, AreCellsKept, way}
use Rattle.order_closure.specs.declared.cell.Cell.{Cell}
use Rattle.order_closure.proofs.Central.{denied_false, denies_or_not}
use Rattle.order_closure.proofs.LeastRanks.{least_ranks, same_ranks}
use Rattle.order_closure.proofs.Raising.{raised_closed, raised_kept}
use Rattle.tml_possible.specs.Possible.{AreShown, HoldsInSome, IsShown, rels_of}
use Rattle.tml_possible.specs.declared.timelines.PossibleItem.{PossibleItem}
use Rattle.tml_possible.proofs.FalseOrders.{all_each}
use Rattle.tml_possible.proofs.Placing.{order_inside}

-- ---- orders

-- a timeline keeps cells and satisfies some orders
abbrev pub KeepsAnd : ℕ → (ℕ → ℕ → Cell) → List Atom → Timeline → Type 0
KeepsAnd n cell atoms t = AreCellsKept n cell t × AllByRecursion (Satisfies t) atoms

-- some ranks are the least that do, or none do
least_or_none : (n : ℕ) (cell : ℕ → ℕ → Cell) → AreClosed n cell → (atoms : List Atom) → AllByRecursion (IsInRange n) atoms
    → ((ranks : List ℕ) × AreLeast n (KeepsAnd n cell atoms) ranks) ⊎ ((t : Timeline) → KeepsAnd n cell atoms t → ⊥)
least_or_none n cell closed [] inside =
    let (ranks, least) = least_ranks n cell closed in
    inl (ranks, same_ranks n (AreCellsKept n cell) (KeepsAnd n cell []) ranks (λ t. (λ kept. (kept, tt), λ both. both.0)) least)
least_or_none n cell closed (atom ∷ atoms) inside = elim (denies_or_not (cell atom.to atom.from) atom.strict) [
  | yes denied ↦ inr (λ t h. denied_false (cell atom.to atom.from) atom.strict (t atom.from) (t atom.to) denied (h.0 atom.to atom.from inside.0.1 inside.0.0) h.1.0)
  | no fits ↦
      let raised : ℕ → ℕ → Cell = λ i j. stronger (cell i j) (way cell atom i j) in
      let same = raised_kept n cell atom closed inside.0.0 inside.0.1 fits raised (λ i j li lj. refl) in
      elim (least_or_none n raised (raised_closed n cell atom closed inside.0.0 inside.0.1 fits raised (λ i j li lj. refl)) atoms inside.1) [
        | inl found ↦ inl (
          found.0,
          same_ranks n (KeepsAnd n raised atoms) (KeepsAnd n cell (atom ∷ atoms)) found.0 (λ t. (
            λ h. let both = (same t).0 h.0 in (both.0, (both.1, h.1)),
            λ h. ((same t).1 (h.0, h.1.0), h.1.1),
          )) found.1,
        )
        | inr none ↦ inr (λ t h. none t ((same t).1 (h.0, h.1.0), h.1.1))
      ]
]

-- ---- relations

module _ (n : ℕ) (cell : ℕ → ℕ → Cell) (closed : AreClosed n cell) (a b : ℕ) (fa : 2 * a + 1 < n) (fb : 2 * b + 1 < n) where
  -- a timeline keeps the cells and has the relation
  abbrev pub KeepsWith : Rel → Timeline → Type 0
  KeepsWith r t = AreCellsKept n cell t × Relates t a r b

  pub relation_or_none : (r : Rel) → ((ranks : List ℕ) × AreLeast n (KeepsWith r) ranks) ⊎ ((t : Timeline) → KeepsWith r t → ⊥)
  relation_or_none r =
      let between = atom_between (points_of a) (points_of b) in
      let inside = (all_mapped (IsInRange n) between (orders_of r)).0 (all_each (λ order. IsInRange n (between order)) (order_inside n a b fa fb) (orders_of r)) in
      let says = λ (t : Timeline). atoms_say_the_relation t r a b in
      elim (least_or_none n cell closed (atoms_of a r b) inside) [
        | inl found ↦ inl (found.0, same_ranks n (KeepsAnd n cell (atoms_of a r b)) (KeepsWith r) found.0 (λ t. (λ h. (h.0, (says t).1 h.1), λ h. (h.0, (says t).0 h.1))) found.1)
        | inr none ↦ inr (λ t h. none t (h.0, (says t).0 h.1))
      ]

  -- as a test
  abbrev pub is_found : {P Q : Type 0} → P ⊎ Q → Bool
  is_found (inl p) = true
  is_found (inr q) = false

  abbrev pub can_hold_test : Rel → Bool
  can_hold_test r = is_found (relation_or_none r)

  pub can_hold_told : (r : Rel) → (can_hold_test r ≡ true) ↔ HoldsInSome (AreCellsKept n cell) a r b
  can_hold_told r = by (relation_or_none r)
    where
      by : (found : ((ranks : List ℕ) × AreLeast n (KeepsWith r) ranks) ⊎ ((t : Timeline) → KeepsWith r t → ⊥)) → (is_found found ≡ true) ↔ HoldsInSome (AreCellsKept n cell) a r b
      by (inl (ranks, least)) = (λ h. (timeline_of ranks, least.least.holds.0, least.least.holds.1), λ h. refl)
      by (inr none) = (λ h. let e : false ≡ true = h in cc, λ h. absurd (none h.0 (h.1, h.2)))

  -- an item for each relation of a list that can hold
  items_for : (rels : List Rel) → (items : List PossibleItem) × (rels_of items ≡ filter can_hold_test rels) × All (IsShown n (AreCellsKept n cell) a b) items
  items_for [] = ([], refl, All-nil (IsShown n (AreCellsKept n cell) a b))
  items_for (r ∷ rels) = by (relation_or_none r) refl (items_for rels)
    where
      by : (found : ((ranks : List ℕ) × AreLeast n (KeepsWith r) ranks) ⊎ ((t : Timeline) → KeepsWith r t → ⊥)) → relation_or_none r ≡ found
          → ((items : List PossibleItem) × (rels_of items ≡ filter can_hold_test rels) × All (IsShown n (AreCellsKept n cell) a b) items)
          → (items : List PossibleItem) × (rels_of items ≡ filter can_hold_test (r ∷ rels)) × All (IsShown n (AreCellsKept n cell) a b) items
      by (inl (ranks, least)) e (items, are, shown) =
          let item : PossibleItem = record { rel = r; ranks = ranks } in (
            item ∷ items,
            ap (λ (rest : List Rel). r ∷ rest) are ∙ sym (ap (λ (found : ((ranks : List ℕ) × AreLeast n (KeepsWith r) ranks) ⊎ ((t : Timeline) → KeepsWith r t → ⊥)). cond (is_found found) (r ∷ filter can_hold_test rels) (filter can_hold_test rels)) e),
            All-cons (IsShown n (AreCellsKept n cell) a b) item items least shown,
          )
      by (inr none) e (items, are, shown) = (
        items,
        are ∙ sym (ap (λ (found : ((ranks : List ℕ) × AreLeast n (KeepsWith r) ranks) ⊎ ((t : Timeline) → KeepsWith r t → ⊥)). cond (is_found found) (r ∷ filter can_hold_test rels) (filter can_hold_test rels)) e),
        shown,
      )

  -- so there is an item for each base relation that can hold
  pub every_item : (items : List PossibleItem) × AreShown n (AreCellsKept n cell) a b items
  every_item =
      let (items, are, shown) = items_for base_rels in
      (items, record { relations = (can_hold_test, λ r base. can_hold_told r, are); shown = shown })
