-- The attributes of a name stay those of that name: their first value is only quoted, and none is repeated that was not.
use Rattle.std.proofs.Common.{◌≡◌, ℕ, ◌+◌, ◌==◌, Bool, true, false, cond, ◌||◌, List, [], ◌∷◌, ◌++◌, length, map, refl, sym, ap, ◌∙◌, Option, Some, option_map}
use Rattle.std.specs.Prelude.{codes}
use Rattle.std.specs.Ordering.{is_gt, nat_cmp}
use Rattle.std.specs.Str.{bytes_eq}
use Rattle.std.proofs.lemmas.Bool.{both_ways}
use Rattle.std.proofs.lemmas.Cmp.{nat_list_cmp_total, tied_itself, nat_list_eq_equiv}
use Rattle.std.proofs.lemmas.Slice.Eq.{bytes_eq-Decides}
use Rattle.std.specs.Cmp.Lexicographic.{slice_cmp}
use Rattle.named.proofs.Lists.{or_swapped}
use Rattle.tml_span.specs.Units.{Attribute}
use Rattle.tml_span.specs.Written.{attribute_text, attributes_at, double_quote, tag_attributes}
use Rattle.tml_types.specs.Rules.{has_name, is_repeated}
use Rattle.tml_types.specs.Values.{filled, value_of}
use Rattle.tml_canon.specs.Canonical.{canonical_attribute, canonical_attributes, in_order, is_after, placed, quoted}

-- these attributes have the values of those, quoted, and repeat a name where those do
pub record AreQuoted (attrs others : List Attribute) : Type 0 where
  pub values : (name : List ℕ) → value_of name others ≡ option_map quoted (value_of name attrs)
  pub repeated : is_repeated others ≡ is_repeated attrs

-- ---- values

-- a value is there where it is there when it is quoted
filled_quoted : (value : List ℕ) → filled (quoted value) ≡ option_map quoted (filled value)
filled_quoted [] = refl
filled_quoted (b ∷ value) = elim (b == double_quote) as (λ e. filled (cond e (codes "&quot;") (b ∷ []) ++ quoted value) ≡ Some (cond e (codes "&quot;") (b ∷ []) ++ quoted value)) [ true ↦ refl | false ↦ refl ]

-- places matter to no value
value_at : (name : List ℕ) (place : ℕ) (attrs : List Attribute) → value_of name (attributes_at place attrs) ≡ value_of name attrs
value_at name place [] = refl
value_at name place (a ∷ attrs) = ap (λ (o : Option (List ℕ)). cond (bytes_eq a.name name) (filled a.value) o) (value_at name (place + length (attribute_text a)) attrs)

-- canonical attributes have quoted values
value_canonical : (name : List ℕ) (attrs : List Attribute) → value_of name (map canonical_attribute attrs) ≡ option_map quoted (value_of name attrs)
value_canonical name [] = refl
value_canonical name (a ∷ attrs) = elim (bytes_eq a.name name) as (λ e. cond e (filled (quoted a.value)) (value_of name (map canonical_attribute attrs)) ≡ option_map quoted (cond e (filled a.value) (value_of name attrs))) [
  | true ↦ filled_quoted a.value
  | false ↦ value_canonical name attrs
]

-- an attribute that comes after another one has another name
names_apart : (a b : Attribute) → is_after a b ≡ true → (name : List ℕ) → bytes_eq a.name name ≡ true → bytes_eq b.name name ≡ true → ⊥
names_apart a b after name h k =
    let same : a.name ≡ b.name = (bytes_eq-Decides a.name name).0 h ∙ sym ((bytes_eq-Decides b.name name).0 k) in
    let tied = ap is_gt (ap (λ (n : List ℕ). slice_cmp nat_cmp n b.name) same ∙ tied_itself nat_list_cmp_total b.name) in
    both_ways (is_after a b) tied after

-- of two tests of which one passes at most, either may come first
either_first : {A : Type 0} (p q : Bool) (x y z : A) → (p ≡ true → q ≡ true → ⊥) → cond q x (cond p y z) ≡ cond p y (cond q x z)
either_first true true x y z h = absurd (h refl refl)
either_first true false x y z h = refl
either_first false q x y z h = refl

-- an attribute in its place has the value that it has before all others
value_placed : (name : List ℕ) (a : Attribute) (attrs : List Attribute) → value_of name (placed a attrs) ≡ value_of name (a ∷ attrs)
value_placed name a [] = refl
value_placed name a (b ∷ attrs) = elim (is_after a b) as (λ e. is_after a b ≡ e → value_of name (cond e (b ∷ placed a attrs) (a ∷ b ∷ attrs)) ≡ value_of name (a ∷ b ∷ attrs)) [
  | true ↦ λ e.
      ap (λ (o : Option (List ℕ)). cond (bytes_eq b.name name) (filled b.value) o) (value_placed name a attrs)
      ∙ either_first (bytes_eq a.name name) (bytes_eq b.name name) (filled b.value) (filled a.value) (value_of name attrs) (names_apart a b e name)
  | false ↦ λ e. refl
] refl

-- so attributes in order have the values that they had
value_in_order : (name : List ℕ) (attrs : List Attribute) → value_of name (in_order attrs) ≡ value_of name attrs
value_in_order name [] = refl
value_in_order name (a ∷ attrs) = value_placed name a (in_order attrs) ∙ ap (λ (o : Option (List ℕ)). cond (bytes_eq a.name name) (filled a.value) o) (value_in_order name attrs)

-- ---- repeated names

-- places matter to no name
has_at : (name : List ℕ) (place : ℕ) (attrs : List Attribute) → has_name name (attributes_at place attrs) ≡ has_name name attrs
has_at name place [] = refl
has_at name place (a ∷ attrs) = ap (λ (b : Bool). bytes_eq a.name name || b) (has_at name (place + length (attribute_text a)) attrs)

-- nor to whether one is repeated
repeated_at : (place : ℕ) (attrs : List Attribute) → is_repeated (attributes_at place attrs) ≡ is_repeated attrs
repeated_at place [] = refl
repeated_at place (a ∷ attrs) = let next = place + length (attribute_text a) in λ i. has_at a.name next attrs i || repeated_at next attrs i

-- canonical attributes have the names that they had
has_canonical : (name : List ℕ) (attrs : List Attribute) → has_name name (map canonical_attribute attrs) ≡ has_name name attrs
has_canonical name [] = refl
has_canonical name (a ∷ attrs) = ap (λ (b : Bool). bytes_eq a.name name || b) (has_canonical name attrs)

-- and repeat those that they repeated
repeated_canonical : (attrs : List Attribute) → is_repeated (map canonical_attribute attrs) ≡ is_repeated attrs
repeated_canonical [] = refl
repeated_canonical (a ∷ attrs) = λ i. has_canonical a.name attrs i || repeated_canonical attrs i

-- of two tests either may come first
turned : (p q r : Bool) → (q || (p || r)) ≡ (p || (q || r))
turned true true r = refl
turned true false r = refl
turned false q r = refl

-- an attribute in its place is among the others
has_placed : (name : List ℕ) (a : Attribute) (attrs : List Attribute) → has_name name (placed a attrs) ≡ has_name name (a ∷ attrs)
has_placed name a [] = refl
has_placed name a (b ∷ attrs) = elim (is_after a b) as (λ e. has_name name (cond e (b ∷ placed a attrs) (a ∷ b ∷ attrs)) ≡ has_name name (a ∷ b ∷ attrs)) [
  | true ↦ ap (λ (c : Bool). bytes_eq b.name name || c) (has_placed name a attrs) ∙ turned (bytes_eq a.name name) (bytes_eq b.name name) (has_name name attrs)
  | false ↦ refl
]

-- where an attribute stands matters to no repetition
repeated_placed : (a : Attribute) (attrs : List Attribute) → is_repeated (placed a attrs) ≡ is_repeated (a ∷ attrs)
repeated_placed a [] = refl
repeated_placed a (b ∷ attrs) = elim (is_after a b) as (λ e. is_repeated (cond e (b ∷ placed a attrs) (a ∷ b ∷ attrs)) ≡ is_repeated (a ∷ b ∷ attrs)) [
  | true ↦
      (λ i. has_placed b.name a attrs i || repeated_placed a attrs i)
      ∙ or_swapped (bytes_eq a.name b.name) (has_name b.name attrs) (has_name a.name attrs) (is_repeated attrs)
      ∙ ap (λ (c : Bool). (c || has_name a.name attrs) || (has_name b.name attrs || is_repeated attrs)) (nat_list_eq_equiv.symm a.name b.name)
  | false ↦ refl
]

-- an attribute of a name is there where one is in order
has_in_order : (name : List ℕ) (attrs : List Attribute) → has_name name (in_order attrs) ≡ has_name name attrs
has_in_order name [] = refl
has_in_order name (a ∷ attrs) = has_placed name a (in_order attrs) ∙ ap (λ (b : Bool). bytes_eq a.name name || b) (has_in_order name attrs)

-- attributes in order repeat a name where they did
repeated_in_order : (attrs : List Attribute) → is_repeated (in_order attrs) ≡ is_repeated attrs
repeated_in_order [] = refl
repeated_in_order (a ∷ attrs) = repeated_placed a (in_order attrs) ∙ (λ i. has_in_order a.name attrs i || repeated_in_order attrs i)

-- the canonical attributes of a tag that is written have the values of its attributes, quoted
pub canonical_are_quoted : (place : ℕ) (name : List ℕ) (attrs : List Attribute) → AreQuoted attrs (tag_attributes place name (canonical_attributes attrs))
canonical_are_quoted place name attrs =
    let first = place + 1 + length name in record {
      values = λ n. value_at n first (canonical_attributes attrs) ∙ value_canonical n (in_order attrs) ∙ ap (λ (o : Option (List ℕ)). option_map quoted o) (value_in_order n attrs);
      repeated = repeated_at first (canonical_attributes attrs) ∙ repeated_canonical (in_order attrs) ∙ repeated_in_order attrs;
    }
