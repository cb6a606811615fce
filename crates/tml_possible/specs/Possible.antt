-- The base relations that two intervals can have, and timelines that show them (Allen 1983).
use Rattle.std.specs.Prelude.{◌≡◌, ◌⊎◌, ◌↔◌, ℕ, ◌*◌, ◌+◌, ◌<◌, Bool, true, List, [], ◌∷◌, map}
use Rattle.std.specs.List.{All, Contains, filter}
use Rattle.net_core.specs.BaseRelations.{base_rels}
use Rattle.net_core.specs.Fits.{Fits, RanksFit}
use Rattle.net_core.specs.Least.{AreLeast}
use Rattle.net_core.specs.Nets.{PlainNet, points}
use Rattle.net_core.specs.Ranks.{timeline_of}
use Rattle.net_core.specs.Relations.{Relates, Timeline}
use Rattle.net_core.specs.declared.rels.Rel.{Rel}
use Rattle.order_closure.specs.Tables.{Keeps, Table, cell_at}
use Rattle.order_closure.specs.declared.cell.Cell.TheVariants.{Strict}
use Rattle.tml_possible.specs.declared.timelines.PossibleItem.{PossibleItem}

-- the relation holds between intervals a and b in some timeline that has a property
abbrev pub HoldsInSome : (Timeline → Type 0) → ℕ → Rel → ℕ → Type 0
HoldsInSome P a r b = (t : Timeline) × P t × Relates t a r b

-- it can be, by a net: some timeline that fits has it
abbrev pub CanBe : PlainNet → ℕ → Rel → ℕ → Type 0
CanBe net a r b = HoldsInSome (Fits net) a r b

-- it can hold, by a table: some timeline that keeps the table has it
abbrev pub CanHold : Table → ℕ → Rel → ℕ → Type 0
CanHold table a r b = HoldsInSome (Keeps table) a r b

-- each interval starts before it ends, by a table
abbrev pub StartFirst : Table → Type 0
StartFirst table = (i : ℕ) → 2 * i + 1 < table.points → cell_at table (2 * i) (2 * i + 1) ≡ Strict

-- a test passes the base relations that have a property, and no other base relation
abbrev pub Tells : (Rel → Bool) → (Rel → Type 0) → Type 0
Tells test P = (r : Rel) → Contains base_rels r → (test r ≡ true) ↔ P r

-- the base relations that have a property, in their order
abbrev pub AreBaseWith : (Rel → Type 0) → List Rel → Type 0
AreBaseWith P rels = (test : Rel → Bool) × Tells test P × (rels ≡ filter test base_rels)

-- the relations of the items of a list
abbrev pub rels_of : List PossibleItem → List Rel
rels_of items = map (λ (item : PossibleItem). item.rel) items

-- the ranks of the item are the least timeline that has a property and in which the relation of the item holds
abbrev pub IsShown : ℕ → (Timeline → Type 0) → ℕ → ℕ → PossibleItem → Type 0
IsShown n P a b item = AreLeast n (λ t. P t × Relates t a item.rel b) item.ranks

-- an item for each base relation that holds between intervals a and b in some timeline that has a property, in their order, each with the least such timeline
pub record AreShown (n : ℕ) (P : Timeline → Type 0) (a b : ℕ) (items : List PossibleItem) : Type 0 where
  pub relations : AreBaseWith (λ r. HoldsInSome P a r b) (rels_of items)
  pub shown : All (IsShown n P a b) items

-- the first relations are some of the others, in their order
abbrev pub AreSome : List Rel → List Rel → Type 0
AreSome rels [] = rels ≡ []
AreSome rels (base ∷ bases) = AreSome rels bases ⊎ ((rest : List Rel) × (rels ≡ base ∷ rest) × AreSome rest bases)

-- the ranks of the item fit the net, and its relation holds in them between intervals a and b
abbrev pub IsTrueItem : PlainNet → ℕ → ℕ → PossibleItem → Type 0
IsTrueItem net a b item = RanksFit net item.ranks × Relates (timeline_of item.ranks) a item.rel b

-- base relations, each after the one before it in their order, with timelines that fit and in which they hold
abbrev pub AreTrueItems : PlainNet → ℕ → ℕ → List PossibleItem → Type 0
AreTrueItems net a b items = AreSome (rels_of items) base_rels × All (IsTrueItem net a b) items

-- of a net there is one list of items at most for two intervals
abbrev pub NetsHaveOneList : Type 0
NetsHaveOneList = (net : PlainNet) (a b : ℕ) (items others : List PossibleItem)
    → AreShown (points net) (Fits net) a b items → AreShown (points net) (Fits net) a b others → items ≡ others
