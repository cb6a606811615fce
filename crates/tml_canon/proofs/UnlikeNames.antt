-- Attributes no two of which have one name are the same canonical attributes where they say the same.
use Rattle.std.proofs.Common.{◌≡◌, ℕ, ◌+◌, Bool, true, false, ◌&&◌, cond, List, [], ◌∷◌, map, count_by, bytes_eq, inl, inr, refl, sym, ap, ap₂, zero-add, ◌∙◌, arith}
use Rattle.std.specs.List.{AllByRecursion}
use Rattle.std.proofs.lemmas.Bool.{and_from, and_left, and_parts, both_ways, cases_Bool, cond_both, or_parts}
use Rattle.std.proofs.lemmas.Cmp.{nat_list_eq_equiv}
use Rattle.std.proofs.lemmas.Slice.Eq.{bytes_eq-Decides}
use Rattle.named.proofs.Lists.{each_weaker}
use Rattle.tml_span.specs.Units.{Attribute}
use Rattle.tml_span.specs.Written.{double_quote}
use Rattle.tml_types.specs.Rules.{has_name, is_repeated}
use Rattle.tml_canon.specs.Canonical.{canonical_attribute, canonical_attributes, in_order, is_after, placed, quoted}
use Rattle.tml_canon.specs.Same.{SameAttributes, says}
use Rattle.tml_canon.proofs.Ordered.{all_in_order, all_placed, after_both, after_or_before, different_after, in_order_counts}
use Rattle.tml_canon.proofs.Quoted.{count_first}

-- ---- names that differ

-- names differ either way
turned : (name other : List ℕ) → bytes_eq name other ≡ false → bytes_eq other name ≡ false
turned name other e = sym (nat_list_eq_equiv.symm name other) ∙ e

-- an attribute has another name than a second one
abbrev Differs : Attribute → Attribute → Type 0
Differs a b = bytes_eq b.name a.name ≡ false

-- where none of some attributes has the name of one more, each has another name
all_differ : (a : Attribute) (attrs : List Attribute) → has_name a.name attrs ≡ false → AllByRecursion (Differs a) attrs
all_differ a [] h = tt
all_differ a (b ∷ attrs) h =
    let parts = or_parts (bytes_eq b.name a.name) (has_name a.name attrs) h in
    (parts.0, all_differ a attrs parts.1)

-- ---- attributes each of which comes after all before it

-- the second attribute comes after the first
abbrev ComesAfter : Attribute → Attribute → Type 0
ComesAfter a b = is_after b a ≡ true

-- attributes are apart: each comes after all before it
abbrev AreApart : List Attribute → Type 0
AreApart [] = Unit {0}
AreApart (a ∷ attrs) = AllByRecursion (ComesAfter a) attrs × AreApart attrs

-- what comes after an attribute comes after all that this comes after
all_after_both : (a b : Attribute) (attrs : List Attribute) → is_after b a ≡ true → AllByRecursion (ComesAfter b) attrs → AllByRecursion (ComesAfter a) attrs
all_after_both a b attrs e all = each_weaker (ComesAfter b) (ComesAfter a) (λ c after. after_both c b a after e) attrs all

-- what comes before the first of attributes that are apart is apart from all
first_apart : (a b : Attribute) (attrs : List Attribute) → is_after b a ≡ true → AreApart (b ∷ attrs) → AreApart (a ∷ b ∷ attrs)
first_apart a b attrs e are = ((e, all_after_both a b attrs e are.0), are)

-- attributes that are apart are so with one more in its place whose name no other has
placed_apart : (a : Attribute) (attrs : List Attribute) → AllByRecursion (Differs a) attrs → AreApart attrs → AreApart (placed a attrs)
placed_apart a [] all are = (tt, tt)
placed_apart a (b ∷ attrs) all are = cond_both (is_after a b) (b ∷ placed a attrs) (a ∷ b ∷ attrs) AreApart
    (λ e. (all_placed (ComesAfter b) a attrs e are.0, placed_apart a attrs all.1 are.1))
    (λ e. first_apart a b attrs (after_or_before a b e (turned b.name a.name all.0)) are)

-- attributes no two of which have one name are apart when they are put in order
apart : (attrs : List Attribute) → is_repeated attrs ≡ false → AreApart (in_order attrs)
apart [] h = tt
apart (a ∷ attrs) h =
    let parts = or_parts (has_name a.name attrs) (is_repeated attrs) h in
    placed_apart a (in_order attrs) (all_in_order (Differs a) attrs (all_differ a attrs parts.0)) (apart attrs parts.1)

-- ---- attributes that say the same

-- an attribute says its name and its value
says_itself : (a : Attribute) → says a.name (quoted a.value) a ≡ true
says_itself a = and_from (bytes_eq a.name a.name) (bytes_eq (quoted a.value) (quoted a.value)) (nat_list_eq_equiv.refl a.name) (nat_list_eq_equiv.refl (quoted a.value))

-- so it counts where it is the first
said_by_first : (a : Attribute) (attrs : List Attribute) → count_by (says a.name (quoted a.value)) (a ∷ attrs) ≡ 1 + count_by (says a.name (quoted a.value)) attrs
said_by_first a attrs = count_first (says a.name (quoted a.value)) a attrs
    ∙ ap (λ (b : Bool). cond b 1 0 + count_by (says a.name (quoted a.value)) attrs) (says_itself a)

-- one with another name does not count
not_said_by_first : (name value : List ℕ) (a : Attribute) (attrs : List Attribute) → bytes_eq a.name name ≡ false → count_by (says name value) (a ∷ attrs) ≡ count_by (says name value) attrs
not_said_by_first name value a attrs e = count_first (says name value) a attrs
    ∙ ap (λ (b : Bool). cond b 1 0 + count_by (says name value) attrs) (and_left (bytes_eq a.name name) (bytes_eq (quoted a.value) value) e)
    ∙ zero-add (count_by (says name value) attrs)

-- none of the attributes that come after one has its name
none_after : (name value : List ℕ) (a : Attribute) (attrs : List Attribute) → name ≡ a.name → AllByRecursion (ComesAfter a) attrs → count_by (says name value) attrs ≡ 0
none_after name value a [] same all = refl
none_after name value a (b ∷ attrs) same all =
    let other : bytes_eq b.name name ≡ false = ap (bytes_eq b.name) same ∙ turned a.name b.name (different_after b a all.0) in
    not_said_by_first name value b attrs other ∙ none_after name value a attrs same all.1

-- where an attribute comes before the first of some, none of them says what it says
none_after_later : (a b : Attribute) (attrs : List Attribute) → is_after b a ≡ true → AllByRecursion (ComesAfter b) attrs → count_by (says a.name (quoted a.value)) (b ∷ attrs) ≡ 0
none_after_later a b attrs e all = none_after a.name (quoted a.value) a (b ∷ attrs) refl (e, all_after_both a b attrs e all)

-- attributes none of which comes after the other have one name
one_name : (a b : Attribute) → is_after a b ≡ false → is_after b a ≡ false → a.name ≡ b.name
one_name a b e f = elim (cases_Bool (bytes_eq a.name b.name)) [
  | inl same ↦ (bytes_eq-Decides a.name b.name).0 same
  | inr other ↦ absurd (both_ways (is_after b a) f (after_or_before a b e other))
]

-- where attributes say the same and the first ones have one name, these have one value between double quotes
first_says : (a b : Attribute) (attrs others : List Attribute) → a.name ≡ b.name → AllByRecursion (ComesAfter b) others → SameAttributes (a ∷ attrs) (b ∷ others) → quoted a.value ≡ quoted b.value
first_says a b attrs others same all alike = elim (cases_Bool (says a.name (quoted a.value) b)) [
  | inl both_say ↦ sym ((bytes_eq-Decides (quoted b.value) (quoted a.value)).0 (and_parts (bytes_eq b.name a.name) (bytes_eq (quoted b.value) (quoted a.value)) both_say).1)
  | inr none ↦
      let left = said_by_first a attrs in
      let right = count_first (says a.name (quoted a.value)) b others ∙ ap (λ (c : Bool). cond c 1 0 + count_by (says a.name (quoted a.value)) others) none in
      let later = none_after a.name (quoted a.value) b others same all in
      let both = alike a.name (quoted a.value) in
      absurd (omega arith)
]

-- and the others say the same
others_say : (a b : Attribute) (attrs others : List Attribute) → a.name ≡ b.name → quoted a.value ≡ quoted b.value → SameAttributes (a ∷ attrs) (b ∷ others) → SameAttributes attrs others
others_say a b attrs others same value alike = λ name said.
    let first : says name said a ≡ says name said b = ap₂ (λ (n v : List ℕ). bytes_eq n name && bytes_eq v said) same value in
    let left = count_first (says name said) a attrs in
    let right = count_first (says name said) b others ∙ ap (λ (c : Bool). cond c 1 0 + count_by (says name said) others) (sym first) in
    let both = alike name said in
    omega arith

-- attributes that are apart and say the same are the same canonical attributes
same_apart : (attrs others : List Attribute) → AreApart attrs → AreApart others → SameAttributes attrs others → map canonical_attribute attrs ≡ map canonical_attribute others
same_apart [] [] left right alike = refl
same_apart [] (b ∷ others) left right alike =
    let some = said_by_first b others in
    let both = alike b.name (quoted b.value) in
    absurd (omega arith)
same_apart (a ∷ attrs) [] left right alike =
    let some = said_by_first a attrs in
    let both = alike a.name (quoted a.value) in
    absurd (omega arith)
same_apart (a ∷ attrs) (b ∷ others) left right alike = elim (cases_Bool (is_after b a)) [
  | inl later ↦
      let some = said_by_first a attrs in
      let no = none_after_later a b others later right.0 in
      let both = alike a.name (quoted a.value) in
      absurd (omega arith)
  | inr not_later ↦ elim (cases_Bool (is_after a b)) [
    | inl earlier ↦
        let some = said_by_first b others in
        let no = none_after_later b a attrs earlier left.0 in
        let both = alike b.name (quoted b.value) in
        absurd (omega arith)
    | inr not_earlier ↦
        let same = one_name a b not_earlier not_later in
        let value = first_says a b attrs others same right.0 alike in
        ap₂ (λ (c : Attribute) (cs : List Attribute). c ∷ cs) (one_attribute a b same value) (same_apart attrs others left.1 right.1 (others_say a b attrs others same value alike))
  ]
]
  where
    -- with one name and one value between double quotes they are one canonical attribute
    one_attribute : (a b : Attribute) → a.name ≡ b.name → quoted a.value ≡ quoted b.value → canonical_attribute a ≡ canonical_attribute b
    one_attribute a b same value = ap₂ (λ (n v : List ℕ). let new : Attribute = record { start = 0; end = 0; name = n; value = v; quote = double_quote } in new) same value

-- attributes no two of which have one name, and that say the same, are the same canonical attributes
pub same_attributes : (attrs others : List Attribute) → is_repeated attrs ≡ false → is_repeated others ≡ false → SameAttributes attrs others → canonical_attributes attrs ≡ canonical_attributes others
same_attributes attrs others left right alike = same_apart (in_order attrs) (in_order others) (apart attrs left) (apart others right)
    (λ name value. in_order_counts (says name value) attrs ∙ alike name value ∙ sym (in_order_counts (says name value) others))
