-- A base relation can hold between intervals that start before they end exactly where no order is false of it that the table gives between them.
use Rattle.std.proofs.Common.{◌≡◌, ◌↔◌, ℕ, ◌+◌, ◌*◌, ◌<◌, ◌≤◌, Bool, true, false, not, nat_le, nat_lt, List, [], ◌∷◌, refl, sym, subst, ◌∙◌, arith}
use Rattle.std.specs.Prelude.{bit_and, cond, if◌then◌else◌}
use Rattle.std.specs.List.{AllByRecursion, Contains, filter}
use Rattle.std.proofs.lemmas.Bool.{leb-true, le-leb, lt-ltb, ltb-true}
use Rattle.net_core.specs.Atoms.{IsInOrder, IsTrueOf, Satisfies, atom_between, point_in, points_of}
use Rattle.net_core.specs.BaseRelations.{base_rels}
use Rattle.net_core.specs.Relations.{Timeline, ends_of}
use Rattle.net_core.specs.declared.atom.End.{End}
use Rattle.net_core.specs.declared.atom.End.TheVariants.{Start, Finish}
use Rattle.net_core.specs.declared.atom.PairOrder.{PairOrder}
use Rattle.net_core.specs.declared.atom.PairOrder.TheVariants.{ABefore, ANoLater, BBefore, BNoLater}
use Rattle.net_core.specs.declared.net.Ends.{Ends}
use Rattle.net_core.specs.declared.rels.Rel.{Rel}
use Rattle.order_closure.specs.Between.{AreGiven}
use Rattle.order_closure.specs.Cells.{CellSays, joined, strength}
use Rattle.order_closure.specs.Tables.{IsClosed, Keeps, Table, cell_at}
use Rattle.order_closure.specs.declared.cell.Cell.{Cell}
use Rattle.order_closure.specs.declared.cell.Cell.TheVariants.{Free, Weak, Strict}
use Rattle.order_closure.proofs.Central.{order_says, says_of}
use Rattle.order_closure.proofs.Masks.{HasBit, mask_apart}
use Rattle.tml_possible.specs.Examples.{all_orders, example, false_orders, is_true}
use Rattle.tml_possible.specs.Possible.{CanHold}
use Rattle.tml_possible.specs.Trying.{AreKeptFrom}
use Rattle.tml_possible.proofs.Lying.{examples_are_intervals, examples_hold, lie_as_example, order_alike}
use Rattle.tml_possible.proofs.Placing.{can_hold, order_inside, place_of}

-- ---- lists of orders

kept_one : {A : Type 0} (P : A → Type 0) (test : A → Bool) (x : A) (xs : List A) → (AllByRecursion P (filter test xs) ↔ AllByRecursion (λ x. test x ≡ true → P x) xs)
    → (r : Bool) → test x ≡ r → AllByRecursion P (filter test (x ∷ xs)) ↔ AllByRecursion (λ x. test x ≡ true → P x) (x ∷ xs)
kept_one P test x xs rest true e = subst (λ (r : Bool). AllByRecursion P (cond r (x ∷ filter test xs) (filter test xs)) ↔ AllByRecursion (λ x. test x ≡ true → P x) (x ∷ xs)) (sym e)
    (λ h. (λ _. h.0, rest.0 h.1), λ h. (h.0 e, rest.1 h.1))
kept_one P test x xs rest false e = subst (λ (r : Bool). AllByRecursion P (cond r (x ∷ filter test xs) (filter test xs)) ↔ AllByRecursion (λ x. test x ≡ true → P x) (x ∷ xs)) (sym e)
    (λ h. ((λ is. let both : true ≡ false = sym is ∙ e in cc), rest.0 h), λ h. rest.1 h.1)

-- what holds of each element that passes a test holds of those that a filter keeps, and the other way round
kept_each : {A : Type 0} (P : A → Type 0) (test : A → Bool) (xs : List A) → AllByRecursion P (filter test xs) ↔ AllByRecursion (λ x. test x ≡ true → P x) xs
kept_each P test [] = (λ h. tt, λ h. tt)
kept_each P test (x ∷ xs) = kept_one P test x xs (kept_each P test xs) (test x) refl

-- each order is one of them all
every_order : (P : PairOrder → Type 0) → AllByRecursion P all_orders → (o : PairOrder) → P o
every_order P h (ANoLater Start Start) = h.0
every_order P h (ANoLater Start Finish) = h.1.0
every_order P h (ABefore Start Start) = h.1.1.0
every_order P h (ABefore Start Finish) = h.1.1.1.0
every_order P h (ANoLater Finish Start) = h.1.1.1.1.0
every_order P h (ANoLater Finish Finish) = h.1.1.1.1.1.0
every_order P h (ABefore Finish Start) = h.1.1.1.1.1.1.0
every_order P h (ABefore Finish Finish) = h.1.1.1.1.1.1.1.0
every_order P h (BNoLater Start Start) = h.1.1.1.1.1.1.1.1.0
every_order P h (BNoLater Start Finish) = h.1.1.1.1.1.1.1.1.1.0
every_order P h (BBefore Start Start) = h.1.1.1.1.1.1.1.1.1.1.0
every_order P h (BBefore Start Finish) = h.1.1.1.1.1.1.1.1.1.1.1.0
every_order P h (BNoLater Finish Start) = h.1.1.1.1.1.1.1.1.1.1.1.1.0
every_order P h (BNoLater Finish Finish) = h.1.1.1.1.1.1.1.1.1.1.1.1.1.0
every_order P h (BBefore Finish Start) = h.1.1.1.1.1.1.1.1.1.1.1.1.1.1.0
every_order P h (BBefore Finish Finish) = h.1.1.1.1.1.1.1.1.1.1.1.1.1.1.1.0

pub all_each : (P : PairOrder → Type 0) → ((o : PairOrder) → P o) → (orders : List PairOrder) → AllByRecursion P orders
all_each P each [] = tt
all_each P each (o ∷ orders) = (each o, all_each P each orders)

-- ---- orders that are false of an example

order_test : (strict : Bool) (m n : ℕ) → ((if strict then nat_lt m n else nat_le m n) ≡ true) ↔ IsInOrder strict m n
order_test true m n = (λ e. ltb-true m n e, λ h. lt-ltb m n h)
order_test false m n = (λ e. leb-true m n e, λ h. le-leb m n h)

is_true_says : (x y : Ends) (o : PairOrder) → (is_true x y o ≡ true) ↔ IsTrueOf x y o
is_true_says x y o = let atom = atom_between x y o in order_test atom.strict atom.from atom.to

not_not : (r : Bool) → (not r ≡ true → ⊥) → r ≡ true
not_not true h = refl
not_not false h = absurd (h refl)

not_both : (r : Bool) → not r ≡ true → r ≡ true → ⊥
not_both true h k = cc
not_both false h k = cc

-- a set of orders has none that is false of an example exactly where all that it has are true of it
pub none_false : (set : ℕ) (r : Rel) → (bit_and set (false_orders r) ≡ 0) ↔ ((o : PairOrder) → HasBit set o → IsTrueOf (example r).0 (example r).1 o)
none_false set r =
    let truth : PairOrder → Bool = is_true (example r).0 (example r).1 in
    let test : PairOrder → Bool = λ o. not (truth o) in
    let Lacks : PairOrder → Type 0 = λ o. ¬ HasBit set o in
    let masked = mask_apart set (filter test all_orders) in
    let kept = kept_each Lacks test all_orders in (
      λ e o is. (is_true_says (example r).0 (example r).1 o).0 (not_not (truth o) (λ falsehood. every_order (λ o. test o ≡ true → Lacks o) (kept.0 (masked.0 e)) o falsehood is)),
      λ each. masked.1 (kept.1 (all_each (λ o. test o ≡ true → Lacks o) (λ o falsehood is. not_both (truth o) falsehood ((is_true_says (example r).0 (example r).1 o).1 (each o is))) all_orders)),
    )

-- ---- tables in which both intervals start before they end

joined_over : (forth back itself : Cell) → forth ≡ Strict → itself ≡ Weak → strength (joined forth back) ≤ strength itself → strength (joined Strict back) ≤ strength Weak
joined_over forth back itself e k h = subst (λ (c : Cell). strength (joined c back) ≤ strength Weak) e (subst (λ (c : Cell). strength (joined forth back) ≤ strength c) k h)

-- back from the end of an interval to its start nothing is given
back_is_free : (forth back itself : Cell) → forth ≡ Strict → itself ≡ Weak → strength (joined forth back) ≤ strength itself → back ≡ Free
back_is_free forth Free itself e k h = refl
back_is_free forth Weak itself e k h = absurd (let over = joined_over forth Weak itself e k h in omega (arith, over))
back_is_free forth Strict itself e k h = absurd (let over = joined_over forth Strict itself e k h in omega (arith, over))

-- what is true in some order is said by any cell
any_says : (x : Cell) (m n : ℕ) → m < n → CellSays x m n
any_says Free m n h = tt
any_says Weak m n h = omega (arith, h)
any_says Strict m n h = h

module _ (table : Table) (a b set : ℕ) (closed : IsClosed table) (given : AreGiven table a b set) (fa : 2 * a + 1 < table.points) (fb : 2 * b + 1 < table.points)
    (first : cell_at table (2 * a) (2 * a + 1) ≡ Strict) (second : cell_at table (2 * b) (2 * b + 1) ≡ Strict) (r : Rel) (base : Contains base_rels r) where
  -- the points of an interval that starts before it ends
  inner : (i : ℕ) (x : Ends) → 2 * i + 1 < table.points → cell_at table (2 * i) (2 * i + 1) ≡ Strict → x.start < x.finish → AreKeptFrom table i i x x
  inner i x lt is h Start Start = subst (λ (c : Cell). CellSays c x.start x.start) (sym (closed.itself (2 * i) (omega (arith, lt)))) (omega arith)
  inner i x lt is h Start Finish = any_says (cell_at table (2 * i) (2 * i + 1)) x.start x.finish h
  inner i x lt is h Finish Start = subst (λ (c : Cell). CellSays c x.finish x.start) (sym (back_is_free (cell_at table (2 * i) (2 * i + 1)) (cell_at table (2 * i + 1) (2 * i)) (cell_at table (2 * i) (2 * i)) is
      (closed.itself (2 * i) (omega (arith, lt))) (closed.through (2 * i) (2 * i + 1) (2 * i) (omega (arith, lt)) lt (omega (arith, lt))))) tt
  inner i x lt is h Finish Finish = subst (λ (c : Cell). CellSays c x.finish x.finish) (sym (closed.itself (2 * i + 1) lt)) (omega arith)

  -- where all given orders are true of its example, the relation can hold
  true_can : ((o : PairOrder) → HasBit set o → IsTrueOf (example r).0 (example r).1 o) → CanHold table a r b
  true_can holds =
      let x = (example r).0 in
      let y = (example r).1 in
      let are = examples_are_intervals r in
      let cell = λ (i j : ℕ) (p q : End). cell_at table (point_in (points_of i) p) (point_in (points_of j) q) in
      can_hold table a b closed fa fb x y (record {
        first = inner a x fa first are.0;
        forth = λ p q. says_of (cell a b p q) (point_in x p) (point_in y q)
            (λ e. holds (ABefore p q) ((given (ABefore p q)).1 (rw e (omega arith)))) (λ e. holds (ANoLater p q) ((given (ANoLater p q)).1 (rw e (omega arith))));
        back = λ p q. says_of (cell b a p q) (point_in y p) (point_in x q)
            (λ e. holds (BBefore p q) ((given (BBefore p q)).1 (rw e (omega arith)))) (λ e. holds (BNoLater p q) ((given (BNoLater p q)).1 (rw e (omega arith))));
        second = inner b y fb second are.1;
      }) r (examples_hold r base)

  -- a timeline that keeps the table satisfies the orders that it gives
  satisfies : (t : Timeline) → Keeps table t → (o : PairOrder) → HasBit set o → Satisfies t (atom_between (points_of a) (points_of b) o)
  satisfies t kept o is =
      let atom = atom_between (points_of a) (points_of b) o in
      let inside = order_inside table.points a b fa fb o in
      order_says (cell_at table atom.from atom.to) atom.strict (t atom.from) (t atom.to) ((given o).0 is) (kept atom.from atom.to inside.0 inside.1)

  -- they are then true of the starts and the ends
  true_there : (t : Timeline) (o : PairOrder) → Satisfies t (atom_between (points_of a) (points_of b) o) → IsTrueOf (ends_of t a) (ends_of t b) o
  true_there t (ABefore p q) h = rw (← place_of t a p, ← place_of t b q) h
  true_there t (ANoLater p q) h = rw (← place_of t a p, ← place_of t b q) h
  true_there t (BBefore p q) h = rw (← place_of t b p, ← place_of t a q) h
  true_there t (BNoLater p q) h = rw (← place_of t b p, ← place_of t a q) h

  -- so where the relation can hold, all of them are true of its example
  can_true : CanHold table a r b → (o : PairOrder) → HasBit set o → IsTrueOf (example r).0 (example r).1 o
  can_true (t, kept, holds) o is =
      let starts = λ (i : ℕ) (lt : 2 * i + 1 < table.points) (e : cell_at table (2 * i) (2 * i + 1) ≡ Strict). order_says (cell_at table (2 * i) (2 * i + 1)) true (t (2 * i)) (t (2 * i + 1)) (rw e (omega arith)) (kept (2 * i) (2 * i + 1) (omega (arith, lt)) lt) in
      let alike = lie_as_example (ends_of t a) (ends_of t b) (starts a fa first) (starts b fb second) r base holds in
      order_alike (ends_of t a) (ends_of t b) (example r).0 (example r).1 alike o (true_there t o (satisfies t kept o is))

  pub not_denied_can : (bit_and set (false_orders r) ≡ 0) ↔ CanHold table a r b
  not_denied_can = let none = none_false set r in (λ e. true_can (none.0 e), λ can. none.1 (can_true can))
