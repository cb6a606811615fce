-- Attributes that are sorted by their names are in order.
use Rattle.std.proofs.Common.{◌≡◌, ℕ, ◌+◌, ◌<◌, Bool, true, false, cond, List, [], ◌∷◌, ◌++◌, length, get_or, map, take, refl, sym, ap, ◌∙◌}
use Rattle.std.specs.Cmp.{IsStrictWeakOrder}
use Rattle.std.specs.Cmp.Lexicographic.{slice_cmp}
use Rattle.std.specs.List.{IsAllAdjacentAnswer, flat_map}
use Rattle.std.specs.List.Sorted.{IsSortedBy, IsStableBy}
use Rattle.std.specs.declared.cmp.Ordering.{Ordering}
use Rattle.std.specs.declared.cmp.Ordering.TheVariants.{Less, Equal, Greater}
use Rattle.std.specs.Ordering.{is_le, is_lt, is_gt, nat_cmp, ordering_reverse}
use Rattle.std.proofs.lemmas.List.{flat_map_more, map-append, map_more}
use Rattle.std.proofs.lemmas.Cmp.{nat_list_cmp_total}
use Rattle.std.proofs.lemmas.List.Sorted.{ranks_by}
use Rattle.tml_span.specs.declared.unit.Attr.{Attr}
use Rattle.tml_span.specs.Units.{Attribute}
use Rattle.tml_span.specs.View.{attribute_of}
use Rattle.tml_span.specs.Written.{attribute_text}
use Rattle.tml_canon.specs.Canonical.{canonical_attribute, canonical_attributes, in_order, is_after, placed}
use Rattle.tml_canon.proofs.Sorting.{inserted, ordered, sorted_is_ordered}

-- the name of one attribute comes before that of another one
abbrev pub has_lower_name : Attr → Attr → Bool
has_lower_name a b = is_lt (slice_cmp nat_cmp a.name.now b.name.now)

-- that is the test of an order
pub names_rank : IsStrictWeakOrder has_lower_name
names_rank = ranks_by nat_list_cmp_total (λ (a : Attr). a.name.now)

-- a comparison the other way round is `Greater` where this one is `Less`
gt_reversed : (o : Ordering) → is_gt (ordering_reverse o) ≡ is_lt o
gt_reversed Less = refl
gt_reversed Equal = refl
gt_reversed Greater = refl

-- one name comes after another one where that comes before it
after_is_lower : (a b : Attr) → is_after (attribute_of a) (attribute_of b) ≡ has_lower_name b a
after_is_lower a b = ap is_gt (nat_list_cmp_total.antisymm a.name.now b.name.now) ∙ gt_reversed (slice_cmp nat_cmp b.name.now a.name.now)

-- an insertion by name is an attribute in its place
inserted_is_placed : (a : Attr) (bs : List Attr) → map attribute_of (inserted has_lower_name a bs) ≡ placed (attribute_of a) (map attribute_of bs)
inserted_is_placed a [] = refl
inserted_is_placed a (b ∷ bs) =
    pushed (has_lower_name b a)
    ∙ (λ i. cond (sym (after_is_lower a b) i) (attribute_of b ∷ inserted_is_placed a bs i) (attribute_of a ∷ attribute_of b ∷ map attribute_of bs))
  where
    pushed : (t : Bool) → map attribute_of (cond t (b ∷ inserted has_lower_name a bs) (a ∷ b ∷ bs)) ≡ cond t (attribute_of b ∷ map attribute_of (inserted has_lower_name a bs)) (attribute_of a ∷ attribute_of b ∷ map attribute_of bs)
    pushed true = refl
    pushed false = refl

-- insertions by name give attributes in order
ordered_is_in_order : (attrs : List Attr) → map attribute_of (ordered has_lower_name attrs) ≡ in_order (map attribute_of attrs)
ordered_is_in_order [] = refl
ordered_is_in_order (a ∷ attrs) = inserted_is_placed a (ordered has_lower_name attrs) ∙ ap (placed (attribute_of a)) (ordered_is_in_order attrs)

-- attributes one after another, each with its value between double quotes
abbrev pub attributes_text : List Attr → List ℕ
attributes_text attrs = flat_map attribute_text (map canonical_attribute (map attribute_of attrs))

-- one more attribute is put last
pub attribute_put : (start out put : List ℕ) (attrs : List Attr) (i : ℕ) (d : Attr) → i < length attrs → out ≡ start ++ attributes_text (take i attrs)
    → put ≡ out ++ attribute_text (canonical_attribute (attribute_of (get_or attrs i d))) → put ≡ start ++ attributes_text (take (i + 1) attrs)
attribute_put start out put attrs i d below so_far e =
    let one : List Attr → List Attribute = λ (as' : List Attr). map canonical_attribute (map attribute_of as') in
    let more : one (take (i + 1) attrs) ≡ one (take i attrs) ++ canonical_attribute (attribute_of (get_or attrs i d)) ∷ [] =
    ap (map canonical_attribute) (map_more attribute_of attrs i d below) ∙ map-append canonical_attribute (map attribute_of (take i attrs)) (attribute_of (get_or attrs i d) ∷ []) in
    e
    ∙ ap (λ (s : List ℕ). s ++ attribute_text (canonical_attribute (attribute_of (get_or attrs i d)))) so_far
    ∙ flat_map_more attribute_text start (one (take i attrs)) (canonical_attribute (attribute_of (get_or attrs i d)))
    ∙ ap (λ (as' : List Attribute). start ++ flat_map attribute_text as') (sym more)

-- attributes in the order of their names are the canonical ones of those that a stable sort by name would put so
pub sorted_text : (start : List ℕ) (attrs sorted : List Attr) → IsSortedBy has_lower_name sorted → IsStableBy has_lower_name attrs sorted → start ++ attributes_text sorted ≡ start ++ flat_map attribute_text (canonical_attributes (map attribute_of attrs))
sorted_text start attrs sorted up same =
    let in_place : map attribute_of sorted ≡ in_order (map attribute_of attrs) =
    ap (map attribute_of) (sorted_is_ordered has_lower_name names_rank attrs sorted up same) ∙ ordered_is_in_order attrs in
    ap (λ (as' : List Attribute). start ++ flat_map attribute_text (map canonical_attribute as')) in_place

-- ---- attributes that are in order already

-- the name of one attribute does not come after that of another one
abbrev pub is_not_after : Attr → Attr → Bool
is_not_after a b = is_le (slice_cmp nat_cmp a.name.now b.name.now)

not_less : (o : Ordering) → true ≡ is_le o → is_lt (ordering_reverse o) ≡ false
not_less Less e = refl
not_less Equal e = refl
not_less Greater e = absurd cc

not_lower : (a b : Attr) → true ≡ is_not_after a b → has_lower_name b a ≡ false
not_lower a b e = ap is_lt (nat_list_cmp_total.antisymm b.name.now a.name.now) ∙ not_less (slice_cmp nat_cmp a.name.now b.name.now) e

-- where each name does not come after the next one, they are sorted
pub sorted_by_test : (attrs : List Attr) (r : Bool) → r ≡ true → IsAllAdjacentAnswer (λ a b t. t ≡ is_not_after a b) attrs r → IsSortedBy has_lower_name attrs
sorted_by_test attrs true e h = λ k d from below. not_lower (get_or attrs k d) (get_or attrs (k + 1) d) (h k d below)
sorted_by_test attrs false e h = absurd cc
