-- Orders of two points, and those that a relation is.
use Rattle.std.specs.Prelude.{ℕ, ◌+◌, ◌*◌, ◌<◌, ◌≤◌, ◌↔◌, Bool, true, false, List, [], ◌∷◌, ◌++◌, length, map}
use Rattle.std.specs.List.{AllByRecursion}
use Rattle.net_core.specs.declared.atom.Atom.{Atom}
use Rattle.net_core.specs.declared.atom.Atoms.{Atoms}
use Rattle.net_core.specs.declared.atom.End.{End}
use Rattle.net_core.specs.declared.atom.End.TheVariants.{Start, Finish}
use Rattle.net_core.specs.declared.atom.PairOrder.{PairOrder}
use Rattle.net_core.specs.declared.atom.PairOrder.TheVariants.{ABefore, ANoLater, BBefore, BNoLater}
use Rattle.net_core.specs.declared.net.Ends.{Ends}
use Rattle.net_core.specs.declared.rels.Rel.{Rel}
use Rattle.net_core.specs.declared.rels.Rel.TheVariants as rel
use Rattle.net_core.specs.Relations.{Relates, Timeline}

-- point p is before point q
abbrev pub before : ℕ → ℕ → Atom
before p q = record { from = p; to = q; strict = true }

-- point p is before point q, or both are at one place
abbrev pub no_later : ℕ → ℕ → Atom
no_later p q = record { from = p; to = q; strict = false }

-- the start or the finish of an interval
abbrev pub point_in : Ends → End → ℕ
point_in ends Start = ends.start
point_in ends Finish = ends.finish

-- an order between intervals a and b, by their points
abbrev pub atom_between : Ends → Ends → PairOrder → Atom
atom_between a b (ABefore p q) = before (point_in a p) (point_in b q)
atom_between a b (ANoLater p q) = no_later (point_in a p) (point_in b q)
atom_between a b (BBefore p q) = before (point_in b p) (point_in a q)
atom_between a b (BNoLater p q) = no_later (point_in b p) (point_in a q)

-- a point of a and one of b are at one place
abbrev pub together : End → End → List PairOrder
together p q = ANoLater p q ∷ BNoLater q p ∷ []

-- The orders that a relation is between intervals a and b: the table of relations, in its order.
abbrev pub orders_of : Rel → List PairOrder
orders_of rel.Before = ABefore Finish Start ∷ []
orders_of rel.After = BBefore Finish Start ∷ []
orders_of rel.Includes = ABefore Start Start ∷ BBefore Finish Finish ∷ []
orders_of rel.IsIncluded = BBefore Start Start ∷ ABefore Finish Finish ∷ []
orders_of rel.During = BNoLater Start Start ∷ ANoLater Finish Finish ∷ []
orders_of rel.DuringInv = ANoLater Start Start ∷ BNoLater Finish Finish ∷ []
orders_of rel.Simultaneous = together Start Start ++ together Finish Finish
orders_of rel.Identity = together Start Start ++ together Finish Finish
orders_of rel.Ibefore = together Finish Start
orders_of rel.Iafter = BNoLater Finish Start ∷ ANoLater Start Finish ∷ []
orders_of rel.Begins = together Start Start ++ ABefore Finish Finish ∷ []
orders_of rel.BegunBy = together Start Start ++ BBefore Finish Finish ∷ []
orders_of rel.Ends = together Finish Finish ++ BBefore Start Start ∷ []
orders_of rel.EndedBy = together Finish Finish ++ ABefore Start Start ∷ []
orders_of rel.Overlaps = ABefore Start Start ∷ BBefore Start Finish ∷ ABefore Finish Finish ∷ []
orders_of rel.OverlappedBy = BBefore Start Start ∷ ABefore Start Finish ∷ BBefore Finish Finish ∷ []

-- the same by the points of two intervals
abbrev pub atoms_between : Ends → Rel → Ends → List Atom
atoms_between a r b = map (atom_between a b) (orders_of r)

-- the points of an interval: its start and its end
abbrev pub points_of : ℕ → Ends
points_of i = record { start = 2 * i; finish = 2 * i + 1 }

-- the orders that a relation is, between intervals a and b
abbrev pub atoms_of : ℕ → Rel → ℕ → List Atom
atoms_of a r b = atoms_between (points_of a) r (points_of b)

-- how many orders a relation is
abbrev pub atom_count : Rel → ℕ
atom_count r = length (orders_of r)

-- the orders that a value of the program stands for
abbrev pub atoms_in : Atoms → List Atom
atoms_in x = atoms_between x.a x.rel x.b

-- one number is before another, or where the order is not strict they may be the same
abbrev pub IsInOrder : Bool → ℕ → ℕ → Type 0
IsInOrder true m n = m < n
IsInOrder false m n = m ≤ n

-- an order between two intervals is true of their starts and ends
abbrev pub IsTrueOf : Ends → Ends → PairOrder → Type 0
IsTrueOf a b order = let atom = atom_between a b order in IsInOrder atom.strict atom.from atom.to

-- both points of an atom are below n
abbrev pub IsInRange : ℕ → Atom → Type 0
IsInRange n atom = (atom.from < n) × (atom.to < n)

-- the points of an atom are in its order
abbrev pub Satisfies : Timeline → Atom → Type 0
Satisfies t atom = IsInOrder atom.strict (t atom.from) (t atom.to)

-- the law: a relation holds of two intervals exactly where all its atoms are satisfied
abbrev pub AtomsSayTheRelation : Type 0
AtomsSayTheRelation = (t : Timeline) (r : Rel) (a b : ℕ) → Relates t a r b ↔ AllByRecursion (Satisfies t) (atoms_of a r b)
