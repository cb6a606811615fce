-- Four points of a table: where its cells allow ranks of them in which a relation holds, it holds in some timeline that keeps all cells.
use Rattle.std.proofs.Common.{◌≡◌, inl, inr, ◌==◌, ℕ, ◌+◌, ◌*◌, ◌<◌, ◌≤◌, List, [], ◌∷◌, get_or, refl, sym, subst, ◌∙◌, arith}
use Rattle.std.specs.Prelude.{if◌then◌else◌}
use Rattle.std.specs.List.{Contains}
use Rattle.std.proofs.lemmas.Bool.{cases_eq, cases_lt}
use Rattle.std.proofs.lemmas.Bool.Decides.{nat_tests}
use Rattle.std.proofs.lemmas.List.Elements.{All-contains, All-from_recursion, Contains-get_or}
use Rattle.named.proofs.Lists.{each_weaker}
use Rattle.net_core.specs.Atoms.{IsInRange, Satisfies, atom_between, orders_of, point_in, points_of}
use Rattle.net_core.specs.Relations.{Holds, Relates, Timeline, ends_of}
use Rattle.net_core.specs.declared.atom.End.{End}
use Rattle.net_core.specs.declared.atom.End.TheVariants.{Start, Finish}
use Rattle.net_core.specs.declared.atom.PairOrder.{PairOrder}
use Rattle.net_core.specs.declared.atom.PairOrder.TheVariants.{ABefore, ANoLater, BBefore, BNoLater}
use Rattle.net_core.specs.declared.net.Ends.{Ends}
use Rattle.net_core.specs.declared.rels.Rel.{Rel}
use Rattle.net_core.proofs.AtomLaws.{all_mapped, atoms_say_the_relation}
use Rattle.order_closure.specs.Cells.{CellSays}
use Rattle.order_closure.specs.Chosen.{KeepsAmong, OrderAlike}
use Rattle.order_closure.specs.Tables.{IsClosed, Table, cell_at}
use Rattle.order_closure.specs.declared.cell.Cell.{Cell}
use Rattle.order_closure.specs.declared.cell.Cell.TheVariants.{Weak}
use Rattle.order_closure.proofs.Chosen.{chosen_points_decide}
use Rattle.tml_possible.specs.Possible.{CanHold}
use Rattle.tml_possible.specs.Trying.{AreKeptAmong}

-- the points of two intervals
abbrev pub four_points : ℕ → ℕ → List ℕ
four_points a b = (2 * a) ∷ (2 * a + 1) ∷ (2 * b) ∷ (2 * b + 1) ∷ []

-- where a timeline has the point of an interval
pub place_of : (t : Timeline) (i : ℕ) (p : End) → t (point_in (points_of i) p) ≡ point_in (ends_of t i) p
place_of t i Start = refl
place_of t i Finish = refl

module _ (a b : ℕ) where
  pub of_first : (p : End) → Contains (four_points a b) (point_in (points_of a) p)
  of_first Start = (0, omega arith, refl)
  of_first Finish = (1, omega arith, refl)

  pub of_second : (p : End) → Contains (four_points a b) (point_in (points_of b) p)
  of_second Start = (2, omega arith, refl)
  of_second Finish = (3, omega arith, refl)

  -- what is true of the points of both intervals is true of each of the four
  pub each_point : (P : ℕ → Type 0) → ((p : End) → P (point_in (points_of a) p)) → ((p : End) → P (point_in (points_of b) p)) → (i : ℕ) → Contains (four_points a b) i → P i
  each_point P first second i is = All-contains P (four_points a b) i (All-from_recursion P (four_points a b) (first Start, (first Finish, (second Start, (second Finish, tt))))) is

  -- where two timelines have the four points in one order, the same relations hold in them
  module _ (s t : Timeline) (alike : OrderAlike (four_points a b) s t) where
    no_later_there : (i j : ℕ) → Contains (four_points a b) i → Contains (four_points a b) j → s i ≤ s j → t i ≤ t j
    no_later_there i j ci cj h = elim (cases_lt (t j) (t i)) [
      | inl less ↦ absurd (omega (arith, h, (alike j i cj ci).1 less))
      | inr le ↦ le
    ]

    order_there : (order : PairOrder) → Satisfies s (atom_between (points_of a) (points_of b) order) → Satisfies t (atom_between (points_of a) (points_of b) order)
    order_there (ABefore p q) h = (alike _ _ (of_first p) (of_second q)).0 h
    order_there (ANoLater p q) h = no_later_there _ _ (of_first p) (of_second q) h
    order_there (BBefore p q) h = (alike _ _ (of_second p) (of_first q)).0 h
    order_there (BNoLater p q) h = no_later_there _ _ (of_second p) (of_first q) h

    pub related_alike : (r : Rel) → Relates s a r b → Relates t a r b
    related_alike r h =
        let between = atom_between (points_of a) (points_of b) in
        let HoldsIn : Timeline → PairOrder → Type 0 = λ u order. Satisfies u (between order) in
        let here = (all_mapped (Satisfies s) between (orders_of r)).1 ((atoms_say_the_relation s r a b).0 h) in
        (atoms_say_the_relation t r a b).1 ((all_mapped (Satisfies t) between (orders_of r)).0 (each_weaker (HoldsIn s) (HoldsIn t) order_there (orders_of r) here))

module _ (n a b : ℕ) (fa : 2 * a + 1 < n) (fb : 2 * b + 1 < n) where
  first_inside : (p : End) → point_in (points_of a) p < n
  first_inside Start = omega (arith, fa)
  first_inside Finish = fa

  second_inside : (p : End) → point_in (points_of b) p < n
  second_inside Start = omega (arith, fb)
  second_inside Finish = fb

  -- the points of an order between two intervals are below n
  pub order_inside : (order : PairOrder) → IsInRange n (atom_between (points_of a) (points_of b) order)
  order_inside (ABefore p q) = (first_inside p, second_inside q)
  order_inside (ANoLater p q) = (first_inside p, second_inside q)
  order_inside (BBefore p q) = (second_inside p, first_inside q)
  order_inside (BNoLater p q) = (second_inside p, first_inside q)

module _ (table : Table) (a b : ℕ) (closed : IsClosed table) (fa : 2 * a + 1 < table.points) (fb : 2 * b + 1 < table.points) where
  in_table : (i : ℕ) → Contains (four_points a b) i → i < table.points
  in_table = each_point a b (λ i. i < table.points) (first_inside table.points a b fa fb) (second_inside table.points a b fa fb)

  -- ranks of both intervals that the cells allow
  module _ (x y : Ends) (kept : AreKeptAmong table a b x y) where
    -- as a timeline
    abbrev placed : Timeline
    placed p = if p == 2 * a then x.start else (if p == 2 * a + 1 then x.finish else (if p == 2 * b then y.start else y.finish))

    on_first : (p : End) → placed (point_in (points_of a) p) ≡ point_in x p
    on_first Start = grind (arith, nat_tests)
    on_first Finish = grind (arith, nat_tests)

    -- of one interval twice, both ranks are the same
    one_rank : (p : End) → a ≡ b → point_in x p ≡ point_in y p
    one_rank p e =
        let cell : cell_at table (point_in (points_of a) p) (point_in (points_of a) p) ≡ Weak = closed.itself (point_in (points_of a) p) (in_table (point_in (points_of a) p) (of_first a b p)) in
        let forth : CellSays Weak (point_in x p) (point_in y p) = subst (λ (c : Cell). CellSays c (point_in x p) (point_in y p)) cell
        (subst (λ (i : ℕ). CellSays (cell_at table (point_in (points_of a) p) (point_in (points_of i) p)) (point_in x p) (point_in y p)) (sym e) (kept.forth p p)) in
        let back : CellSays Weak (point_in y p) (point_in x p) = subst (λ (c : Cell). CellSays c (point_in y p) (point_in x p)) cell
        (subst (λ (i : ℕ). CellSays (cell_at table (point_in (points_of i) p) (point_in (points_of a) p)) (point_in y p) (point_in x p)) (sym e) (kept.back p p)) in
        omega (arith, forth, back)

    on_second : (p : End) → placed (point_in (points_of b) p) ≡ point_in y p
    on_second p = elim (cases_eq a b) [
      | inl e ↦ subst (λ (i : ℕ). placed (point_in (points_of i) p) ≡ point_in y p) e (on_first p ∙ one_rank p e)
      | inr ne ↦ apart p ne
    ]
      where
        apart : (p : End) → ¬ (a ≡ b) → placed (point_in (points_of b) p) ≡ point_in y p
        apart Start ne = grind (arith, nat_tests)
        apart Finish ne = grind (arith, nat_tests)

    keeps : KeepsAmong table (four_points a b) placed
    keeps i j ci cj = each_point a b (λ i. CellSays (cell_at table i j) (placed i) (placed j)) (λ p. from_first p) (λ p. from_second p) i ci
      where
        from_first : (p : End) → CellSays (cell_at table (point_in (points_of a) p) j) (placed (point_in (points_of a) p)) (placed j)
        from_first p = each_point a b (λ j. CellSays (cell_at table (point_in (points_of a) p) j) (placed (point_in (points_of a) p)) (placed j))
            (λ q. rw (on_first p, on_first q) (kept.first p q)) (λ q. rw (on_first p, on_second q) (kept.forth p q)) j cj

        from_second : (p : End) → CellSays (cell_at table (point_in (points_of b) p) j) (placed (point_in (points_of b) p)) (placed j)
        from_second p = each_point a b (λ j. CellSays (cell_at table (point_in (points_of b) p) j) (placed (point_in (points_of b) p)) (placed j))
            (λ q. rw (on_second p, on_first q) (kept.back p q)) (λ q. rw (on_second p, on_second q) (kept.second p q)) j cj

    -- so a relation that holds of them can hold
    pub can_hold : (r : Rel) → Holds x r y → CanHold table a r b
    can_hold r holds =
        let here : Relates placed a r b = subst (λ (e : Ends × Ends). Holds e.0 r e.1) (λ i. (sym ends_first i, sym ends_second i)) holds in
        let (t, keeps_all, alike) = chosen_points_decide table (four_points a b) placed closed (λ k d lt. in_table (get_or (four_points a b) k d) (Contains-get_or (four_points a b) k d lt)) keeps in
        (t, keeps_all, related_alike a b placed t alike r here)
      where
        ends_first : ends_of placed a ≡ x
        ends_first = λ i. record { start = on_first Start i; finish = on_first Finish i }

        ends_second : ends_of placed b ≡ y
        ends_second = λ i. record { start = on_second Start i; finish = on_second Finish i }
