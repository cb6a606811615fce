-- The orders of one relation are nested: one that leads to no later a point begins no later.
use Rattle.std.proofs.Common.{◌≡◌, inl, inr, ℕ, ◌≤◌, List, [], ◌∷◌, map, refl, ap, ◌∙◌, arith, rules}
use Rattle.std.specs.List.{AllByRecursion, Contains}
use Rattle.std.proofs.lemmas.List.Elements.{All-contains, All-from_recursion}
use Rattle.net_core.specs.Atoms.{atom_between, atoms_of, orders_of, points_of}
use Rattle.net_core.specs.BaseRelations.{IsInterval}
use Rattle.net_core.specs.Fits.{StartsFirst}
use Rattle.net_core.specs.Relations.{Holds, Relates, Timeline, ends_of}
use Rattle.net_core.specs.declared.atom.Atom.{Atom}
use Rattle.net_core.specs.declared.atom.End.TheVariants.{Start, Finish}
use Rattle.net_core.specs.declared.atom.PairOrder.{PairOrder}
use Rattle.net_core.specs.declared.atom.PairOrder.TheVariants.{ABefore, ANoLater, BBefore, BNoLater}
use Rattle.net_core.specs.declared.net.Ends.{Ends}
use Rattle.net_core.specs.declared.rels.Rel.{Rel}
use Rattle.net_core.specs.declared.rels.Rel.TheVariants as rel
use Rattle.clash.proofs.Elements.{first_in, first_or_rest, rest_in}

-- where another order leads to no later a point, it begins no later
abbrev pub BeginsLater : Ends → Ends → PairOrder → PairOrder → Type 0
BeginsLater a b order other = (atom_between a b other).to ≤ (atom_between a b order).to → (atom_between a b other).from ≤ (atom_between a b order).from

abbrev pub AreNested : Ends → Rel → Ends → Type 0
AreNested a r b = AllByRecursion (λ order. AllByRecursion (BeginsLater a b order) (orders_of r)) (orders_of r)

nested : (r : Rel) (a b : Ends) → IsInterval a → IsInterval b → Holds a r b → AreNested a r b
nested rel.Before a b ia ib h = search rules
nested rel.After a b ia ib h = search rules
nested rel.Includes a b ia ib h = search rules
nested rel.IsIncluded a b ia ib h = search rules
nested rel.During a b ia ib h = search rules
nested rel.DuringInv a b ia ib h = search rules
nested rel.Simultaneous a b ia ib h = search rules
nested rel.Identity a b ia ib h = search rules
nested rel.Ibefore a b ia ib h = search rules
nested rel.Iafter a b ia ib h = search rules
nested rel.Begins a b ia ib h = search rules
nested rel.BegunBy a b ia ib h = search rules
nested rel.Ends a b ia ib h = search rules
nested rel.EndedBy a b ia ib h = search rules
nested rel.Overlaps a b ia ib h = search rules
nested rel.OverlappedBy a b ia ib h = search rules

-- an end of an interval of a timeline is at the place of its point
to_of : (t : Timeline) (a b : ℕ) (order : PairOrder) → (atom_between (ends_of t a) (ends_of t b) order).to ≡ t (atom_between (points_of a) (points_of b) order).to
to_of t a b (ABefore Start Start) = refl
to_of t a b (ABefore Start Finish) = refl
to_of t a b (ABefore Finish Start) = refl
to_of t a b (ABefore Finish Finish) = refl
to_of t a b (ANoLater Start Start) = refl
to_of t a b (ANoLater Start Finish) = refl
to_of t a b (ANoLater Finish Start) = refl
to_of t a b (ANoLater Finish Finish) = refl
to_of t a b (BBefore Start Start) = refl
to_of t a b (BBefore Start Finish) = refl
to_of t a b (BBefore Finish Start) = refl
to_of t a b (BBefore Finish Finish) = refl
to_of t a b (BNoLater Start Start) = refl
to_of t a b (BNoLater Start Finish) = refl
to_of t a b (BNoLater Finish Start) = refl
to_of t a b (BNoLater Finish Finish) = refl

from_of : (t : Timeline) (a b : ℕ) (order : PairOrder) → (atom_between (ends_of t a) (ends_of t b) order).from ≡ t (atom_between (points_of a) (points_of b) order).from
from_of t a b (ABefore Start Start) = refl
from_of t a b (ABefore Start Finish) = refl
from_of t a b (ABefore Finish Start) = refl
from_of t a b (ABefore Finish Finish) = refl
from_of t a b (ANoLater Start Start) = refl
from_of t a b (ANoLater Start Finish) = refl
from_of t a b (ANoLater Finish Start) = refl
from_of t a b (ANoLater Finish Finish) = refl
from_of t a b (BBefore Start Start) = refl
from_of t a b (BBefore Start Finish) = refl
from_of t a b (BBefore Finish Start) = refl
from_of t a b (BBefore Finish Finish) = refl
from_of t a b (BNoLater Start Start) = refl
from_of t a b (BNoLater Start Finish) = refl
from_of t a b (BNoLater Finish Start) = refl
from_of t a b (BNoLater Finish Finish) = refl

-- an image is that of an element
in_map : {X Y : Type 0} (f : X → Y) (xs : List X) (y : Y) → Contains (map f xs) y → (x : X) × Contains xs x × (f x ≡ y)
in_map f [] y h = let lt = h.1 in absurd (omega arith)
in_map f (x ∷ xs) y h = elim (first_or_rest (f x) (map f xs) y h) [
  | inl is ↦ (x, first_in x xs, is)
  | inr among ↦ let found = in_map f xs y among in (found.0, rest_in x xs found.0 found.1, found.2)
]

-- so are the orders of a relation that holds of two intervals of a timeline
pub nested_atoms : (t : Timeline) (r : Rel) (a b : ℕ) → StartsFirst t a → StartsFirst t b → Relates t a r b
    → (x y : Atom) → Contains (atoms_of a r b) x → Contains (atoms_of a r b) y → t y.to ≤ t x.to → t y.from ≤ t x.from
nested_atoms t r a b ia ib holds x y among also le =
    let A = ends_of t a in
    let B = ends_of t b in
    let (order, one, is) = in_map (atom_between (points_of a) (points_of b)) (orders_of r) x among in
    let (other, two, are) = in_map (atom_between (points_of a) (points_of b)) (orders_of r) y also in
    let rows = All-contains (λ (o : PairOrder). AllByRecursion (BeginsLater A B o) (orders_of r)) (orders_of r) order
    (All-from_recursion (λ (o : PairOrder). AllByRecursion (BeginsLater A B o) (orders_of r)) (orders_of r) (nested r A B ia ib holds)) one in
    let law : BeginsLater A B order other = All-contains (BeginsLater A B order) (orders_of r) other (All-from_recursion (BeginsLater A B order) (orders_of r) rows) two in
    let to_x : (atom_between A B order).to ≡ t x.to = to_of t a b order ∙ ap (λ (o : Atom). t o.to) is in
    let to_y : (atom_between A B other).to ≡ t y.to = to_of t a b other ∙ ap (λ (o : Atom). t o.to) are in
    let from_x : (atom_between A B order).from ≡ t x.from = from_of t a b order ∙ ap (λ (o : Atom). t o.from) is in
    let from_y : (atom_between A B other).from ≡ t y.from = from_of t a b other ∙ ap (λ (o : Atom). t o.from) are in
    let later = law (omega (arith, le, to_x, to_y)) in
    omega (arith, later, from_x, from_y)
