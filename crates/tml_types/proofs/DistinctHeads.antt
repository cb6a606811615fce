-- Names whose first bytes differ are distinct.
use Rattle.std.proofs.Common.{◌≡◌, ◌<◌, ◌==◌, ℕ, Bool, true, false, List, [], ◌∷◌, map, IsPermutation, bytes_eq, eq-eqb, refl, sym, ap, ◌∙◌, arith, true≢false}
use Rattle.std.specs.List.{AllByRecursion, IsDistinct}
use Rattle.std.specs.List.Sorted.{IsStrictlyIncreasing}
use Rattle.std.proofs.lemmas.Bool.Decides.{nat_tests}
use Rattle.std.proofs.lemmas.Cmp.{nat_eq_equiv}
use Rattle.std.proofs.lemmas.List.Sorted.{IsPermutation-sym}
use Rattle.std.proofs.lemmas.Map.Keys.{IsDistinct-from_apart, IsDistinct-IsPermutation, below_from_sorted, sorted_from_strictly_increasing}
use Rattle.std.proofs.lemmas.Slice.Eq.{bytes_eq-Decides}
use Rattle.tml_span.specs.declared.unit.Attr.{Attr}
use Rattle.tml_span.specs.View.{attribute_of}
use Rattle.tml_types.specs.Heads.{head_of, name_head}
use Rattle.tml_types.specs.Rules.{has_name, is_repeated}

-- what always brings another test with it fails where that one does
apart_by : (same last : Bool) → (same ≡ true → last ≡ true) → last ≡ false → same ≡ false
apart_by false last to h = refl
apart_by true last to h = absurd (true≢false (sym (to refl) ∙ h))

-- names with other first bytes are not the same
apart_names : (attr other : Attr) → (name_head attr == name_head other) ≡ false → bytes_eq other.name.now attr.name.now ≡ false
apart_names attr other =
    apart_by (bytes_eq other.name.now attr.name.now) (name_head attr == name_head other)
    (λ same. eq-eqb (name_head attr) (name_head other) (sym (ap head_of ((bytes_eq-Decides other.name.now attr.name.now).0 same))))

-- no attribute has the name of this one
unnamed : (attr : Attr) (attrs : List Attr) → AllByRecursion (λ n. (name_head attr == n) ≡ false) (map name_head attrs) → has_name attr.name.now (map attribute_of attrs) ≡ false
unnamed attr [] h = refl
unnamed attr (other ∷ attrs) h = rw (apart_names attr other h.0) (unnamed attr attrs h.1)

distinct_heads : (attrs : List Attr) → IsDistinct ◌==◌ (map name_head attrs) → is_repeated (map attribute_of attrs) ≡ false
unfolding IsDistinct
distinct_heads [] h = refl
distinct_heads (attr ∷ attrs) h = rw (unnamed attr attrs h.0) (distinct_heads attrs h.1)

-- ---- numbers that rise

below_apart : (m n : ℕ) → m < n → (m == n) ≡ false
below_apart m n h = grind (arith, nat_tests)

rising_distinct : (ns : List ℕ) → IsStrictlyIncreasing ns → IsDistinct ◌==◌ ns
rising_distinct ns rises =
    IsDistinct-from_apart ◌==◌ ns (λ i j d before within. below_apart _ _ (below_from_sorted ns i j d (sorted_from_strictly_increasing ns rises) before within))

-- where the first bytes of the names rise in some order, no name is repeated
pub rising_heads : (attrs : List Attr) (ns : List ℕ) → IsPermutation (map name_head attrs) ns → IsStrictlyIncreasing ns → is_repeated (map attribute_of attrs) ≡ false
rising_heads attrs ns moved rises =
    distinct_heads attrs
    (IsDistinct-IsPermutation ◌==◌ nat_eq_equiv.symm ns (map name_head attrs) (IsPermutation-sym (map name_head attrs) ns moved) (rising_distinct ns rises))
