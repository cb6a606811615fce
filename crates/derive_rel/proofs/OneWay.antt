-- Relations of two intervals whose points a table orders one way alone.
use Rattle.std.proofs.Common.{◌≡◌, ◌↔◌, ◌||◌, ℕ, ◌+◌, ◌*◌, ◌<◌, ◌≤◌, Bool, true, false, not, List, [], ◌∷◌, ◌++◌, refl, sym, subst, ap, ◌∙◌, arith, rules}
use Rattle.std.specs.List.{AllByRecursion, list_all}
use Rattle.std.specs.Str.{bytes_eq}
use Rattle.std.proofs.lemmas.Bool.{and_from}
use Rattle.std.proofs.lemmas.List.Elements.{All-from_recursion, recursion_from_All}
use Rattle.std.proofs.lemmas.Slice.Eq.{bytes_eq-Decides}
use Rattle.named.proofs.Tables.{texts_tell}
use Rattle.net_core.specs.Atoms.{atom_between, atoms_of, orders_of, point_in, points_of}
use Rattle.net_core.specs.Rels.{all_rels, rel_text}
use Rattle.net_core.specs.declared.atom.End.{End}
use Rattle.net_core.specs.declared.atom.End.TheVariants.{Start, Finish}
use Rattle.net_core.specs.declared.atom.PairOrder.{PairOrder}
use Rattle.net_core.specs.declared.atom.PairOrder.TheVariants.{ABefore, ANoLater, BBefore, BNoLater}
use Rattle.net_core.specs.declared.rels.Rel.{Rel}
use Rattle.net_core.specs.declared.rels.Rel.TheVariants as rel
use Rattle.net_core.proofs.AtomLaws.{all_mapped}
use Rattle.net_core.proofs.RelLaws.{rels_apart}
use Rattle.order_closure.specs.Cells.{order, strength}
use Rattle.order_closure.specs.Tables.{GivesAtom, Table, cell_at}
use Rattle.order_closure.specs.declared.cell.Cell.{Cell}
use Rattle.order_closure.specs.declared.cell.Cell.TheVariants.{Free, Weak, Strict}
use Rattle.derive_rel.specs.Entailed.{TableEntails, IsRow}
use Rattle.derive_rel.specs.Pairs.{gives, says_some}
use Rattle.derive_rel.specs.Pushing.{ArePutLast, IsRowOf}
use Rattle.derive_rel.specs.declared.all_rows.Row.{Row}
use Rattle.derive_rel.proofs.Joined.{none_put, one_put, same_put}

-- of four tests none holds
none : (p q r s : Bool) → (p || q || r || s) ≡ false → (p ≡ false) × (q ≡ false) × (r ≡ false) × (s ≡ false)
none false false false false e = (refl, refl, refl, refl)
none true q r s e = absurd (cc)
none false true r s e = absurd (cc)
none false false true s e = absurd (cc)
none false false false true e = absurd (cc)

-- an order from the first interval to the second
abbrev is_forth : PairOrder → Bool
is_forth (ABefore p q) = true
is_forth (ANoLater p q) = true
is_forth (BBefore p q) = false
is_forth (BNoLater p q) = false

-- only BEFORE has such orders alone, and only AFTER has none
forth_test : (r : Rel) → list_all is_forth (orders_of r) ≡ bytes_eq (rel_text rel.Before) (rel_text r)
forth_test r = search rules

back_test : (r : Rel) → list_all (λ o. not (is_forth o)) (orders_of r) ≡ bytes_eq (rel_text rel.After) (rel_text r)
back_test r = search rules

-- relations with one text are one
same_relation : (r s : Rel) → bytes_eq (rel_text s) (rel_text r) ≡ true → r ≡ s
same_relation r s e = sym (texts_tell rel_text all_rels s r rels_apart ((bytes_eq-Decides (rel_text s) (rel_text r)).0 e))

-- a test that all orders pass which are given
all_pass : (P : PairOrder → Type 0) (test : PairOrder → Bool) (orders : List PairOrder) → ((o : PairOrder) → P o → test o ≡ true) → AllByRecursion P orders → list_all test orders ≡ true
all_pass P test [] passes all = refl
all_pass P test (o ∷ orders) passes all = and_from (test o) (list_all test orders) (passes o all.0) (all_pass P test orders passes all.1)

-- an order of a free cell is not given
not_given : (x : Cell) (strict : Bool) → gives x false ≡ false → strength (order strict) ≤ strength x → ⊥
not_given Free true e h = omega (arith, h)
not_given Free false e h = omega (arith, h)
not_given Weak strict e h = absurd (cc)
not_given Strict strict e h = absurd (cc)

module _ (table : Table) (a b : ℕ) where
  -- BEFORE is entailed where the end of the first is before the start of the second
  pub before_given : (strength (order true) ≤ strength (cell_at table (2 * a + 1) (2 * b))) ↔ TableEntails table a rel.Before b
  before_given = (
    λ given. All-from_recursion (GivesAtom table) (atoms_of a rel.Before b) (given, tt),
    λ entails. (recursion_from_All (GivesAtom table) (atoms_of a rel.Before b) entails).0,
  )

  -- and AFTER where the end of the second is before the start of the first
  pub after_given : (strength (order true) ≤ strength (cell_at table (2 * b + 1) (2 * a))) ↔ TableEntails table a rel.After b
  after_given = (
    λ given. All-from_recursion (GivesAtom table) (atoms_of a rel.After b) (given, tt),
    λ entails. (recursion_from_All (GivesAtom table) (atoms_of a rel.After b) entails).0,
  )

  -- the orders that a relation is are given where it is entailed
  abbrev GivesOrder : PairOrder → Type 0
  GivesOrder o = GivesAtom table (atom_between (points_of a) (points_of b) o)

  orders_given : (r : Rel) → TableEntails table a r b → AllByRecursion GivesOrder (orders_of r)
  orders_given r entails = (all_mapped (GivesAtom table) (atom_between (points_of a) (points_of b)) (orders_of r)).1 (recursion_from_All (GivesAtom table) (atoms_of a r b) entails)

  -- where some cells are free no order of theirs is given
  free_cells : (x y : ℕ) → says_some (cell_at table) x y ≡ false → (p q : End) (strict : Bool) → strength (order strict) ≤ strength (cell_at table (point_in (points_of x) p) (point_in (points_of y) q)) → ⊥
  free_cells x y free p q strict h =
      let cell = cell_at table in
      let cells = none (gives (cell (2 * x) (2 * y)) false) (gives (cell (2 * x) (2 * y + 1)) false) (gives (cell (2 * x + 1) (2 * y)) false) (gives (cell (2 * x + 1) (2 * y + 1)) false) free in
      by_cells cells p q h
    where
      by_cells : ((gives (cell_at table (2 * x) (2 * y)) false ≡ false) × (gives (cell_at table (2 * x) (2 * y + 1)) false ≡ false) × (gives (cell_at table (2 * x + 1) (2 * y)) false ≡ false) × (gives (cell_at table (2 * x + 1) (2 * y + 1)) false ≡ false))
          → (p q : End) → strength (order strict) ≤ strength (cell_at table (point_in (points_of x) p) (point_in (points_of y) q)) → ⊥
      by_cells cells Start Start h = not_given (cell_at table (2 * x) (2 * y)) strict cells.0 h
      by_cells cells Start Finish h = not_given (cell_at table (2 * x) (2 * y + 1)) strict cells.1 h
      by_cells cells Finish Start h = not_given (cell_at table (2 * x + 1) (2 * y)) strict cells.2 h
      by_cells cells Finish Finish h = not_given (cell_at table (2 * x + 1) (2 * y + 1)) strict cells.3 h

  -- where no order is given back, only BEFORE is entailed
  pub only_before : says_some (cell_at table) b a ≡ false → (r : Rel) → TableEntails table a r b → r ≡ rel.Before
  only_before free r entails = same_relation r rel.Before (sym (forth_test r) ∙ all_pass GivesOrder is_forth (orders_of r) forth (orders_given r entails))
    where
      forth : (o : PairOrder) → GivesOrder o → is_forth o ≡ true
      forth (ABefore p q) h = refl
      forth (ANoLater p q) h = refl
      forth (BBefore p q) h = absurd (free_cells b a free p q true h)
      forth (BNoLater p q) h = absurd (free_cells b a free p q false h)

  -- where none is given forth, only AFTER is
  pub only_after : says_some (cell_at table) a b ≡ false → (r : Rel) → TableEntails table a r b → r ≡ rel.After
  only_after free r entails = same_relation r rel.After (sym (back_test r) ∙ all_pass GivesOrder (λ o. not (is_forth o)) (orders_of r) back (orders_given r entails))
    where
      back : (o : PairOrder) → GivesOrder o → not (is_forth o) ≡ true
      back (ABefore p q) h = absurd (free_cells a b free p q true h)
      back (ANoLater p q) h = absurd (free_cells a b free p q false h)
      back (BBefore p q) h = refl
      back (BNoLater p q) h = refl

  module _ (alone : Rel) (only : (r : Rel) → TableEntails table a r b → r ≡ alone) (rows : List Row) where
    -- the row of the one relation that can hold
    abbrev row : Row
    row = record { a = a; rel = alone; b = b }

    -- it is put last where it holds
    pub one_alone : a < b → 2 * b + 1 < table.points → TableEntails table a alone b → ArePutLast (IsRow table) (IsRowOf a b) rows (rows ++ row ∷ [])
    one_alone less within entails =
        same_put (IsRow table) (λ (other : Row). other ≡ row) (IsRowOf a b) rows (rows ++ row ∷ [])
        (λ other is. (λ same. (ap (λ (x : Row). x.a) same, ap (λ (x : Row). x.b) same), λ of. λ i. record { a = of.0 i; rel = rel_is other is of i; b = of.1 i }))
        (one_put (IsRow table) rows row (less, within, entails))
      where
        rel_is : (other : Row) → IsRow table other → IsRowOf a b other → other.rel ≡ alone
        rel_is other is of = only other.rel (subst (λ (n : ℕ). TableEntails table n other.rel b) of.0 (subst (λ (n : ℕ). TableEntails table other.a other.rel n) of.1 is.2))

    -- and nothing where it does not
    pub none_alone : (TableEntails table a alone b → ⊥) → ArePutLast (IsRow table) (IsRowOf a b) rows rows
    none_alone not = none_put (IsRow table) (IsRowOf a b) rows never
      where
        never : (other : Row) → IsRow table other → IsRowOf a b other → ⊥
        never other is of =
            let entails = subst (λ (n : ℕ). TableEntails table n other.rel b) of.0 (subst (λ (n : ℕ). TableEntails table other.a other.rel n) of.1 is.2) in
            not (subst (λ (r : Rel). TableEntails table a r b) (only other.rel entails) entails)
