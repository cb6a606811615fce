-- The base relations of intervals: of any two, exactly one holds (Allen 1983).
use Rattle.std.specs.Prelude.{◌≡◌, ◌<◌, List, [], ◌∷◌}
use Rattle.std.specs.List.{Contains}
use Rattle.net_core.specs.declared.net.Ends.{Ends}
use Rattle.net_core.specs.declared.rels.Rel.{Rel}
use Rattle.net_core.specs.declared.rels.Rel.TheVariants as rel
use Rattle.net_core.specs.Relations.{Holds}

-- Allen's thirteen, in the order of the table of relations. IDENTITY is SIMULTANEOUS again, and DURING and its inverse are each several of them.
abbrev pub base_rels : List Rel
base_rels =
    rel.Before ∷ rel.After ∷ rel.Includes ∷ rel.IsIncluded ∷ rel.Simultaneous ∷ rel.Ibefore ∷ rel.Iafter
    ∷ rel.Begins ∷ rel.BegunBy ∷ rel.Ends ∷ rel.EndedBy ∷ rel.Overlaps ∷ rel.OverlappedBy ∷ []

-- it starts before it ends
abbrev pub IsInterval : Ends → Type 0
IsInterval a = a.start < a.finish

-- the relation holds, and no other base relation does
abbrev pub OnlyHolds : Ends → Rel → Ends → Type 0
OnlyHolds a r b = Holds a r b × ((s : Rel) → Contains base_rels s → Holds a s b → s ≡ r)

-- the law: of any two intervals, exactly one base relation holds
abbrev pub OneBaseRelationHolds : Type 0
OneBaseRelationHolds = (a b : Ends) → IsInterval a → IsInterval b → (r : Rel) × Contains base_rels r × OnlyHolds a r b
