-- Attributes in the order of their names.
use Rattle.std.proofs.Common.{◌≡◌, ℕ, ◌+◌, Bool, true, false, cond, List, [], ◌∷◌, length, map, count_by, Ordering, Less, Equal, Greater, is_eq, is_gt, nat_cmp, bytes_eq, refl, sym, ap, ◌∙◌, arith}
use Rattle.std.specs.Cmp.Lexicographic.{slice_cmp}
use Rattle.std.specs.List.{AllByRecursion}
use Rattle.std.specs.Ordering.{ordering_reverse}
use Rattle.std.proofs.lemmas.Bool.{cond_both, cond-false}
use Rattle.std.proofs.lemmas.Cmp.{nat_list_cmp_total}
use Rattle.std.proofs.lemmas.Map.Text.{is_eq-slice_cmp}
use Rattle.tml_span.specs.Units.{Attribute}
use Rattle.tml_span.specs.Written.{attribute_text, attributes_at}
use Rattle.tml_canon.specs.Canonical.{canonical_attribute, canonical_attributes, in_order, is_after, placed}
use Rattle.tml_canon.specs.Same.{SameAttributes, says}
use Rattle.tml_canon.proofs.Quoted.{all_canonical_again, all_say_again, count_first}

-- ---- the order of two

-- the answer of the comparison of two names
abbrev compared : Attribute → Attribute → Ordering
compared a b = slice_cmp nat_cmp a.name b.name

-- what a comparison tells of the comparison the other way round
turned : (a b : Attribute) → compared a b ≡ ordering_reverse (compared b a)
turned a b = nat_list_cmp_total.antisymm a.name b.name

-- an answer that is greater is less the other way round
less_when_after : (o : Ordering) → is_gt o ≡ true → ordering_reverse o ≡ Less
less_when_after Less e = cc
less_when_after Equal e = cc
less_when_after Greater e = refl

-- and back
after_when_less : (o : Ordering) → ordering_reverse o ≡ Less → is_gt o ≡ true
after_when_less Less e = cc
after_when_less Equal e = cc
after_when_less Greater e = refl

-- what an attribute comes after is less
less : (a b : Attribute) → is_after a b ≡ true → compared b a ≡ Less
less a b e = turned b a ∙ less_when_after (compared a b) e

-- an attribute comes after what is less
after : (a b : Attribute) → compared b a ≡ Less → is_after a b ≡ true
after a b e = after_when_less (compared a b) (sym (turned b a) ∙ e)

-- what an attribute comes after does not come after it
not_before : (a b : Attribute) → is_after a b ≡ true → is_after b a ≡ false
not_before a b e = ap is_gt (less a b e)

-- what comes after an attribute comes after all that this one comes after
pub after_both : (a b c : Attribute) → is_after a b ≡ true → is_after b c ≡ true → is_after a c ≡ true
after_both a b c e f = after a c (nat_list_cmp_total.trans c.name b.name a.name (less b c f) (less a b e))

-- an answer that is neither greater nor equal is less
not_equal : (o : Ordering) → is_gt o ≡ false → is_eq o ≡ false → o ≡ Less
not_equal Less e f = refl
not_equal Equal e f = cc
not_equal Greater e f = cc

-- of two attributes with different names one comes after the other
pub after_or_before : (a b : Attribute) → is_after a b ≡ false → bytes_eq a.name b.name ≡ false → is_after b a ≡ true
after_or_before a b e f = after b a (not_equal (compared a b) e (is_eq-slice_cmp a.name b.name ∙ f))

-- attributes one of which comes after the other have different names
pub different_after : (a b : Attribute) → is_after a b ≡ true → bytes_eq b.name a.name ≡ false
different_after a b e = sym (is_eq-slice_cmp b.name a.name) ∙ ap is_eq (less a b e)

-- ---- attributes in order

-- what holds of some attributes and of one more holds of all with that one in its place
pub all_placed : (P : Attribute → Type 0) (a : Attribute) (attrs : List Attribute) → P a → AllByRecursion P attrs → AllByRecursion P (placed a attrs)
all_placed P a [] h all = (h, tt)
all_placed P a (b ∷ attrs) h all = cond_both (is_after a b) (b ∷ placed a attrs) (a ∷ b ∷ attrs) (AllByRecursion P)
    (λ e. (all.0, all_placed P a attrs h all.1))
    (λ e. (h, all))

-- what holds of attributes holds of them in order
pub all_in_order : (P : Attribute → Type 0) (attrs : List Attribute) → AllByRecursion P attrs → AllByRecursion P (in_order attrs)
all_in_order P [] all = tt
all_in_order P (a ∷ attrs) all = all_placed P a (in_order attrs) all.0 (all_in_order P attrs all.1)

-- an attribute comes after none that follows it at once
abbrev MayPrecede : Attribute → List Attribute → Type 0
MayPrecede a [] = Unit {0}
MayPrecede a (b ∷ attrs) = is_after a b ≡ false

-- no attribute comes after the next one
abbrev AreInOrder : List Attribute → Type 0
AreInOrder [] = Unit {0}
AreInOrder (a ∷ attrs) = MayPrecede a attrs × AreInOrder attrs

-- what may precede some attributes, and does not come after one more, may precede all with that one in its place
precedes_placed : (b a : Attribute) (attrs : List Attribute) → is_after b a ≡ false → MayPrecede b attrs → MayPrecede b (placed a attrs)
precedes_placed b a [] e may = e
precedes_placed b a (c ∷ attrs) e may = cond_both (is_after a c) (c ∷ placed a attrs) (a ∷ c ∷ attrs) (MayPrecede b) (λ f. may) (λ f. e)

-- attributes in order with one more in its place are in order
placed_in_order : (a : Attribute) (attrs : List Attribute) → AreInOrder attrs → AreInOrder (placed a attrs)
placed_in_order a [] are = (tt, tt)
placed_in_order a (b ∷ attrs) are = cond_both (is_after a b) (b ∷ placed a attrs) (a ∷ b ∷ attrs) AreInOrder
    (λ e. (precedes_placed b a attrs (not_before a b e) are.0, placed_in_order a attrs are.1))
    (λ e. (e, are))

-- attributes that are put in order are in order
are_in_order : (attrs : List Attribute) → AreInOrder (in_order attrs)
are_in_order [] = tt
are_in_order (a ∷ attrs) = placed_in_order a (in_order attrs) (are_in_order attrs)

-- an attribute that may precede others has its place before them
placed_first : (a : Attribute) (attrs : List Attribute) → MayPrecede a attrs → placed a attrs ≡ a ∷ attrs
placed_first a [] may = refl
placed_first a (b ∷ attrs) may = cond-false (is_after a b) (b ∷ placed a attrs) (a ∷ b ∷ attrs) may

-- attributes that are in order stay as they are when they are put in order
in_order_again : (attrs : List Attribute) → AreInOrder attrs → in_order attrs ≡ attrs
in_order_again [] are = refl
in_order_again (a ∷ attrs) are = ap (placed a) (in_order_again attrs are.1) ∙ placed_first a attrs are.0

-- canonical attributes are in order where the attributes are, wherever they are written
written_in_order : (place : ℕ) (attrs : List Attribute) → AreInOrder attrs → AreInOrder (attributes_at place (map canonical_attribute attrs))
written_in_order place [] are = tt
written_in_order place (a ∷ []) are = (tt, tt)
written_in_order place (a ∷ b ∷ attrs) are = (are.0, written_in_order (place + length (attribute_text (canonical_attribute a))) (b ∷ attrs) are.1)

-- canonical attributes stay as they are when they are written and made canonical again
pub canonical_attributes_again : (place : ℕ) (attrs : List Attribute) → canonical_attributes (attributes_at place (canonical_attributes attrs)) ≡ canonical_attributes attrs
canonical_attributes_again place attrs =
    ap (map canonical_attribute) (in_order_again (attributes_at place (canonical_attributes attrs)) (written_in_order place (in_order attrs) (are_in_order attrs)))
    ∙ all_canonical_again place (in_order attrs)

-- ---- order keeps what attributes say

-- one more before those among which an attribute is put changes nothing
counts_later : (test : Attribute → Bool) (a b : Attribute) (attrs : List Attribute) → count_by test (placed a attrs) ≡ cond (test a) 1 0 + count_by test attrs
    → count_by test (b ∷ placed a attrs) ≡ cond (test a) 1 0 + count_by test (b ∷ attrs)
counts_later test a b attrs e =
    let left = count_first test b (placed a attrs) in
    let right = count_first test b attrs in
    omega arith

-- an attribute that is put in its place counts where it passes the test
placed_counts : (test : Attribute → Bool) (a : Attribute) (attrs : List Attribute) → count_by test (placed a attrs) ≡ cond (test a) 1 0 + count_by test attrs
placed_counts test a [] = count_first test a []
placed_counts test a (b ∷ attrs) = cond_both (is_after a b) (b ∷ placed a attrs) (a ∷ b ∷ attrs) (λ (all : List Attribute). count_by test all ≡ cond (test a) 1 0 + count_by test (b ∷ attrs))
    (λ e. counts_later test a b attrs (placed_counts test a attrs))
    (λ e. count_first test a (b ∷ attrs))

-- as many attributes pass a test in order as before
pub in_order_counts : (test : Attribute → Bool) (attrs : List Attribute) → count_by test (in_order attrs) ≡ count_by test attrs
in_order_counts test [] = refl
in_order_counts test (a ∷ attrs) = placed_counts test a (in_order attrs) ∙ ap (λ (n : ℕ). cond (test a) 1 0 + n) (in_order_counts test attrs) ∙ sym (count_first test a attrs)

-- canonical attributes that are written say what the attributes say
pub canonical_attributes_same : (place : ℕ) (attrs : List Attribute) → SameAttributes attrs (attributes_at place (canonical_attributes attrs))
canonical_attributes_same place attrs = λ name value. sym (all_say_again name value place (in_order attrs) ∙ in_order_counts (says name value) attrs)
