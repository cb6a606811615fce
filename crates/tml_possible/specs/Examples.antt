-- Serves the code: an example of each base relation, and the orders of two intervals that are false of it.
use Rattle.std.specs.Prelude.{ℕ, Bool, not, nat_lt, nat_le, if◌then◌else◌, List, [], ◌∷◌}
use Rattle.std.specs.List.{filter}
use Rattle.net_core.specs.Atoms.{atom_between}
use Rattle.net_core.specs.declared.atom.End.TheVariants.{Start, Finish}
use Rattle.net_core.specs.declared.atom.PairOrder.{PairOrder}
use Rattle.net_core.specs.declared.atom.PairOrder.TheVariants.{ABefore, ANoLater, BBefore, BNoLater}
use Rattle.net_core.specs.declared.net.Ends.{Ends}
use Rattle.net_core.specs.declared.rels.Rel.{Rel}
use Rattle.net_core.specs.declared.rels.Rel.TheVariants as rel
use Rattle.order_closure.specs.Between.{mask_of}

abbrev pub from_to : ℕ → ℕ → Ends
from_to m n = record { start = m; finish = n }

-- two intervals that have a base relation
abbrev pub example : Rel → Ends × Ends
example rel.Before = (from_to 0 1, from_to 2 3)
example rel.After = (from_to 2 3, from_to 0 1)
example rel.Includes = (from_to 0 3, from_to 1 2)
example rel.IsIncluded = (from_to 1 2, from_to 0 3)
example rel.Ibefore = (from_to 0 1, from_to 1 2)
example rel.Iafter = (from_to 1 2, from_to 0 1)
example rel.Begins = (from_to 0 1, from_to 0 2)
example rel.BegunBy = (from_to 0 2, from_to 0 1)
example rel.Ends = (from_to 1 2, from_to 0 2)
example rel.EndedBy = (from_to 0 2, from_to 1 2)
example rel.Overlaps = (from_to 0 2, from_to 1 3)
example rel.OverlappedBy = (from_to 1 3, from_to 0 2)
example other = (from_to 0 1, from_to 0 1)

-- all orders of a point of one interval and one of another
abbrev pub all_orders : List PairOrder
all_orders =
    ANoLater Start Start ∷ ANoLater Start Finish ∷ ABefore Start Start ∷ ABefore Start Finish
    ∷ ANoLater Finish Start ∷ ANoLater Finish Finish ∷ ABefore Finish Start ∷ ABefore Finish Finish
    ∷ BNoLater Start Start ∷ BNoLater Start Finish ∷ BBefore Start Start ∷ BBefore Start Finish
    ∷ BNoLater Finish Start ∷ BNoLater Finish Finish ∷ BBefore Finish Start ∷ BBefore Finish Finish ∷ []

-- whether an order is true of two intervals
abbrev pub is_true : Ends → Ends → PairOrder → Bool
is_true x y order = let atom = atom_between x y order in if atom.strict then nat_lt atom.from atom.to else nat_le atom.from atom.to

-- the orders that are false of intervals with a base relation, as bits
abbrev pub false_orders : Rel → ℕ
false_orders r = mask_of (filter (λ order. not (is_true (example r).0 (example r).1 order)) all_orders)
