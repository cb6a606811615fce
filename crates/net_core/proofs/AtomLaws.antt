-- A relation and its orders of points say the same.
use Rattle.std.proofs.Common.{◌≡◌, ◌↔◌, ℕ, ◌≤◌, ◌<◌, ◌*◌, nat_le, true, List, [], ◌∷◌, map, arith, rules, length, refl, sym, ap, subst, le_antisymm}
use Rattle.std.specs.List.{All, AllByRecursion}
use Rattle.std.proofs.lemmas.Bool.{leb-true}
use Rattle.std.proofs.lemmas.List.{length-map}
use Rattle.std.proofs.lemmas.List.Elements.{All-from_recursion, recursion_from_All}
use Rattle.net_core.specs.declared.rels.Rel.TheVariants as rel
use Rattle.net_core.specs.declared.atom.End.{End}
use Rattle.net_core.specs.declared.atom.End.TheVariants.{Start, Finish}
use Rattle.net_core.specs.declared.atom.PairOrder.{PairOrder}
use Rattle.net_core.specs.declared.atom.PairOrder.TheVariants.{ABefore, ANoLater, BBefore, BNoLater}
use Rattle.net_core.specs.declared.net.Ends.{Ends}
use Rattle.net_core.specs.declared.rels.Rel.{Rel}
use Rattle.net_core.specs.Atoms.{AtomsSayTheRelation, IsInRange, IsTrueOf, Satisfies, atom_between, atom_count, atoms_between, atoms_of, orders_of, point_in, points_of}
use Rattle.net_core.specs.Relations.{Holds, Timeline, ends_of}

abbrev BothWays : ℕ → ℕ → Type 0
BothWays m n = (m ≤ n) × (n ≤ m)

split : (m n : ℕ) → m ≡ n → BothWays m n
split m n e = (omega (arith, e), omega (arith, e))

-- a relation holds exactly where all its orders are true
pub relation_by_orders : (r : Rel) (a b : Ends) → Holds a r b ↔ AllByRecursion (IsTrueOf a b) (orders_of r)
relation_by_orders rel.Before a b = (λ h. (h, tt), λ k. k.0)
relation_by_orders rel.After a b = (λ h. (h, tt), λ k. k.0)
relation_by_orders rel.Includes a b = (λ h. (h.0, (h.1, tt)), λ k. (k.0, k.1.0))
relation_by_orders rel.IsIncluded a b = (λ h. (h.0, (h.1, tt)), λ k. (k.0, k.1.0))
relation_by_orders rel.During a b = (λ h. (h.0, (h.1, tt)), λ k. (k.0, k.1.0))
relation_by_orders rel.DuringInv a b = (λ h. (h.0, (h.1, tt)), λ k. (k.0, k.1.0))
relation_by_orders rel.Simultaneous a b = (λ h. let s = split _ _ h.0 in let e = split _ _ h.1 in (s.0, (s.1, (e.0, (e.1, tt)))), λ k. (le_antisymm k.0 k.1.0, le_antisymm k.1.1.0 k.1.1.1.0))
relation_by_orders rel.Identity a b = (λ h. let s = split _ _ h.0 in let e = split _ _ h.1 in (s.0, (s.1, (e.0, (e.1, tt)))), λ k. (le_antisymm k.0 k.1.0, le_antisymm k.1.1.0 k.1.1.1.0))
relation_by_orders rel.Ibefore a b = (λ h. let s = split _ _ h in (s.0, (s.1, tt)), λ k. le_antisymm k.0 k.1.0)
relation_by_orders rel.Iafter a b = (λ h. let s = split _ _ h in (s.0, (s.1, tt)), λ k. le_antisymm k.0 k.1.0)
relation_by_orders rel.Begins a b = (λ h. let s = split _ _ h.0 in (s.0, (s.1, (h.1, tt))), λ k. (le_antisymm k.0 k.1.0, k.1.1.0))
relation_by_orders rel.BegunBy a b = (λ h. let s = split _ _ h.0 in (s.1, (s.0, (h.1, tt))), λ k. (le_antisymm k.1.0 k.0, k.1.1.0))
relation_by_orders rel.Ends a b = (λ h. let s = split _ _ h.0 in (s.0, (s.1, (h.1, tt))), λ k. (le_antisymm k.0 k.1.0, k.1.1.0))
relation_by_orders rel.EndedBy a b = (λ h. let s = split _ _ h.0 in (s.1, (s.0, (h.1, tt))), λ k. (le_antisymm k.1.0 k.0, k.1.1.0))
relation_by_orders rel.Overlaps a b = (λ h. (h.0, (h.1, (h.2, tt))), λ k. (k.0, k.1.0, k.1.1.0))
relation_by_orders rel.OverlappedBy a b = (λ h. (h.0, (h.1, (h.2, tt))), λ k. (k.0, k.1.0, k.1.1.0))

-- the same of the list of orders
pub orders_say_the_relation : (r : Rel) (a b : Ends) → All (IsTrueOf a b) (orders_of r) ↔ Holds a r b
orders_say_the_relation r a b = (
  λ all. (relation_by_orders r a b).1 (recursion_from_All (IsTrueOf a b) (orders_of r) all),
  λ h. All-from_recursion (IsTrueOf a b) (orders_of r) ((relation_by_orders r a b).0 h),
)

-- what is true of each image is true of all images
pub all_mapped : {A B : Type 0} (P : B → Type 0) (f : A → B) (xs : List A) → AllByRecursion (λ x. P (f x)) xs ↔ AllByRecursion P (map f xs)
all_mapped P f [] = (λ h. tt, λ h. tt)
all_mapped P f (x ∷ xs) = (λ h. (h.0, (all_mapped P f xs).0 h.1), λ h. (h.0, (all_mapped P f xs).1 h.1))

-- what is true of each element is true of all
each_of : {A : Type 0} (P : A → Type 0) (xs : List A) → ((x : A) → P x) → AllByRecursion P xs
each_of P [] each = tt
each_of P (x ∷ xs) each = (each x, each_of P xs each)

-- an order is true of the ends of two intervals where a timeline satisfies it
same_order : (t : Timeline) (a b : ℕ) (order : PairOrder) → IsTrueOf (ends_of t a) (ends_of t b) order ≡ Satisfies t (atom_between (points_of a) (points_of b) order)
same_order t a b (ABefore Start Start) = refl
same_order t a b (ABefore Start Finish) = refl
same_order t a b (ABefore Finish Start) = refl
same_order t a b (ABefore Finish Finish) = refl
same_order t a b (ANoLater Start Start) = refl
same_order t a b (ANoLater Start Finish) = refl
same_order t a b (ANoLater Finish Start) = refl
same_order t a b (ANoLater Finish Finish) = refl
same_order t a b (BBefore Start Start) = refl
same_order t a b (BBefore Start Finish) = refl
same_order t a b (BBefore Finish Start) = refl
same_order t a b (BBefore Finish Finish) = refl
same_order t a b (BNoLater Start Start) = refl
same_order t a b (BNoLater Start Finish) = refl
same_order t a b (BNoLater Finish Start) = refl
same_order t a b (BNoLater Finish Finish) = refl

-- so a timeline relates two intervals exactly where it satisfies all orders of the relation
pub atoms_say_the_relation : AtomsSayTheRelation
atoms_say_the_relation t r a b =
    let by_orders = relation_by_orders r (ends_of t a) (ends_of t b) in
    let mapped = all_mapped (Satisfies t) (atom_between (points_of a) (points_of b)) (orders_of r) in
    let same : AllByRecursion (IsTrueOf (ends_of t a) (ends_of t b)) (orders_of r) ≡ AllByRecursion (λ order. Satisfies t (atom_between (points_of a) (points_of b) order)) (orders_of r) =
    ap (λ (P : PairOrder → Type 0). AllByRecursion P (orders_of r)) (λ i order. same_order t a b order i) in
    (λ h. mapped.0 (subst (λ (X : Type 0). X) same (by_orders.0 h)), λ k. by_orders.1 (subst (λ (X : Type 0). X) (sym same) (mapped.1 k)))

-- a relation is as many orders between any two intervals
pub atoms_counted : (r : Rel) (a b : Ends) → length (atoms_between a r b) ≡ atom_count r
atoms_counted r a b = length-map (orders_of r) (atom_between a b)

-- a relation is four orders at most
at_most_four : (r : Rel) → nat_le (atom_count r) 4 ≡ true
at_most_four r = search rules

pub few_orders : (r : Rel) → atom_count r ≤ 4
few_orders r = leb-true (atom_count r) 4 (at_most_four r)

-- a point of an interval whose points are below n
point_below : (n : ℕ) (ends : Ends) (p : End) → ends.start < n → ends.finish < n → point_in ends p < n
point_below n ends Start s f = s
point_below n ends Finish s f = f

-- an order between two intervals whose points are below n
order_in_range : (n : ℕ) (a b : Ends) → a.start < n → a.finish < n → b.start < n → b.finish < n → (order : PairOrder) → IsInRange n (atom_between a b order)
order_in_range n a b s f u v (ABefore p q) = (point_below n a p s f, point_below n b q u v)
order_in_range n a b s f u v (ANoLater p q) = (point_below n a p s f, point_below n b q u v)
order_in_range n a b s f u v (BBefore p q) = (point_below n b p u v, point_below n a q s f)
order_in_range n a b s f u v (BNoLater p q) = (point_below n b p u v, point_below n a q s f)

-- the orders of a relation between two of the first n intervals are of their points
pub atoms_in_range : (n : ℕ) (r : Rel) (a b : ℕ) → a < n → b < n → AllByRecursion (IsInRange (2 * n)) (atoms_of a r b)
atoms_in_range n r a b la lb =
    let a_points = points_of a in
    let b_points = points_of b in
    (all_mapped (IsInRange (2 * n)) (atom_between a_points b_points) (orders_of r)).0
    (each_of (λ (order : PairOrder). IsInRange (2 * n) (atom_between a_points b_points order)) (orders_of r) (order_in_range (2 * n) a_points b_points (omega arith) (omega arith) (omega arith) (omega arith)))
