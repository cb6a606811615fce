-- Sets of base relations, as bits.
use Rattle.std.specs.Prelude.{◌≡◌, ◌↔◌, ◌⊎◌, ◌==◌, ℕ, ◌%◌, Bool, true, false, Option, Some, None}
use Rattle.std.specs.Int.{bit_at}
use Rattle.std.specs.List.{Contains}
use Rattle.net_core.specs.BaseRelations.{base_rels}
use Rattle.net_core.specs.declared.rels.Rel.{Rel}
use Rattle.net_core.specs.declared.rels.Rel.TheVariants as rel
use Rattle.tml_possible.specs.declared.base_set.BaseSet.{BaseSet}

-- the number of a base relation, in their order
abbrev pub base_number : Rel → Option ℕ
base_number rel.Before = Some 0
base_number rel.After = Some 1
base_number rel.Includes = Some 2
base_number rel.IsIncluded = Some 3
base_number rel.Simultaneous = Some 4
base_number rel.Ibefore = Some 5
base_number rel.Iafter = Some 6
base_number rel.Begins = Some 7
base_number rel.BegunBy = Some 8
base_number rel.Ends = Some 9
base_number rel.EndedBy = Some 10
base_number rel.Overlaps = Some 11
base_number rel.OverlappedBy = Some 12
base_number other = None

-- whether a relation is in a set: it is a base relation, and its bit is set
abbrev pub has : BaseSet → Rel → Bool
has set r = elim (base_number r) [ None ↦ false | Some k ↦ bit_at set.bits k == 1 ]

-- the number of a set: its bits for base relations
abbrev pub number : BaseSet → ℕ
number set = set.bits % 8192

-- the relations of a set are the base relations that have a property
abbrev pub IsSetOf : (Rel → Type 0) → BaseSet → Type 0
IsSetOf P set = (r : Rel) → (has set r ≡ true) ↔ (Contains base_rels r × P r)

-- a set has what it had, and the base relations that have a property
abbrev pub AreMore : BaseSet → (Rel → Type 0) → BaseSet → Type 0
AreMore old P new = (r : Rel) → (has new r ≡ true) ↔ ((has old r ≡ true) ⊎ (Contains base_rels r × P r))
