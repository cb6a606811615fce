-- There is one list of the base relations that have a property, and one of items.
use Rattle.std.proofs.Common.{◌≡◌, ◌↔◌, ℕ, Bool, List, [], ◌∷◌, refl, sym, subst, ◌∙◌}
use Rattle.std.specs.Prelude.{cond}
use Rattle.std.specs.List.{All, AllByRecursion, Contains, filter}
use Rattle.std.proofs.lemmas.Bool.Decides.{same_from_decides}
use Rattle.std.proofs.lemmas.List.Elements.{All-contains_itself, All-head, All-tail, All-weaker, recursion_from_All}
use Rattle.net_core.specs.BaseRelations.{base_rels}
use Rattle.net_core.specs.Least.{AreLeast}
use Rattle.net_core.specs.Relations.{Relates, Timeline}
use Rattle.net_core.specs.declared.rels.Rel.{Rel}
use Rattle.order_closure.proofs.LeastRanks.{one_least_of, same_ranks}
use Rattle.tml_possible.specs.Possible.{AreBaseWith, AreShown, HoldsInSome, IsShown, Tells, rels_of}
use Rattle.tml_possible.specs.declared.timelines.PossibleItem.{PossibleItem}

-- two tests that tell one property agree on base relations
tests_agree : (P : Rel → Type 0) (test other : Rel → Bool) → Tells test P → Tells other P → (r : Rel) → Contains base_rels r → test r ≡ other r
tests_agree P test other tells too r base = same_from_decides (test r) (other r) (tells r base) (too r base)

-- tests that agree on a list keep the same of it
filters_agree : (test other : Rel → Bool) (rels : List Rel) → AllByRecursion (λ r. test r ≡ other r) rels → filter test rels ≡ filter other rels
filters_agree test other [] all = refl
filters_agree test other (r ∷ rels) all = let rest = filters_agree test other rels all.1 in λ i. cond (all.0 i) (r ∷ rest i) (rest i)

pub one_filter : (P : Rel → Type 0) (test other : Rel → Bool) → Tells test P → Tells other P → filter test base_rels ≡ filter other base_rels
one_filter P test other tells too = filters_agree test other base_rels (recursion_from_All (λ r. test r ≡ other r) base_rels
    (All-weaker (Contains base_rels) (λ r. test r ≡ other r) (tests_agree P test other tells too) base_rels (All-contains_itself base_rels)))

pub one_base_list : (P : Rel → Type 0) (rels others : List Rel) → AreBaseWith P rels → AreBaseWith P others → rels ≡ others
one_base_list P rels others are too = are.2 ∙ one_filter P are.0 too.0 are.1 too.1 ∙ sym too.2

-- items of the same relations are the same, since their ranks are the least
module _ (n : ℕ) (P : Timeline → Type 0) (a b : ℕ) where
  same_items : (items others : List PossibleItem) → rels_of items ≡ rels_of others → All (IsShown n P a b) items → All (IsShown n P a b) others → items ≡ others
  same_items [] [] e shown too = refl
  same_items [] (other ∷ others) e shown too = cc
  same_items (item ∷ items) [] e shown too = cc
  same_items (item ∷ items) (other ∷ others) e shown too =
      let same : item.rel ≡ other.rel = cc in
      let rest : rels_of items ≡ rels_of others = cc in
      let here = All-head (IsShown n P a b) item items shown in
      let there = All-head (IsShown n P a b) other others too in
      let moved : AreLeast n (λ t. P t × Relates t a other.rel b) item.ranks = subst (λ (r : Rel). AreLeast n (λ t. P t × Relates t a r b) item.ranks) same here in
      let ranks = one_least_of n (λ t. P t × Relates t a other.rel b) item.ranks other.ranks moved.size there.size moved.least there.least in
      let more = same_items items others rest (All-tail (IsShown n P a b) item items shown) (All-tail (IsShown n P a b) other others too) in
      λ i. record { rel = same i; ranks = ranks i } ∷ more i

  pub one_item_list : (items others : List PossibleItem) → AreShown n P a b items → AreShown n P a b others → items ≡ others
  one_item_list items others are too = same_items items others (one_base_list (λ r. HoldsInSome P a r b) (rels_of items) (rels_of others) are.relations too.relations) are.shown too.shown

  -- items of a property are those of another one that the same timelines have
  pub shown_by : (Q : Timeline → Type 0) → ((t : Timeline) → P t ↔ Q t) → (items : List PossibleItem) → AreShown n P a b items → AreShown n Q a b items
  shown_by Q same items are = record {
    relations = (
      are.relations.0,
      λ r base. let told = are.relations.1 r base in (
        λ h. let (t, has, holds) = told.0 h in (t, (same t).0 has, holds),
        λ h. let (t, has, holds) = h in told.1 (t, (same t).1 has, holds),
      ),
      are.relations.2,
    );
    shown = All-weaker (IsShown n P a b) (IsShown n Q a b) (λ item. same_ranks n (λ t. P t × Relates t a item.rel b) (λ t. Q t × Relates t a item.rel b) item.ranks (λ t. (λ h. ((same t).0 h.0, h.1), λ h. ((same t).1 h.0, h.1)))) items are.shown;
  }
