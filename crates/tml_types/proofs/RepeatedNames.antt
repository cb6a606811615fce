-- Repeated names, sought in a sorted list of all of them.
use Rattle.std.proofs.Common.{◌≡◌, ◌<◌, ◌+◌, ◌↔◌, ◌&&◌, ◌==◌, ℕ, Bool, true, false, List, [], ◌∷◌, map, length, get_or, eq-eqb, IsPermutation, IsSorted, Ordering, Less, Equal, Greater, nat_cmp, is_eq, is_lt, bytes_eq, refl, sym, ap, ◌∙◌, subst, arith, true≢false}
use Rattle.std.specs.List.{AllByRecursion, IsDistinct}
use Rattle.std.specs.Ordering.{ordering_reverse, ordering_then}
use Rattle.std.proofs.lemmas.Bool.{or_parts}
use Rattle.std.proofs.lemmas.Bool.Decides.{nat_tests}
use Rattle.std.proofs.lemmas.Cmp.{and_equiv, nat_cmp_total, nat_eq_equiv, nat_list_cmp_total, nat_list_eq_equiv, on_equiv, on_total, then_total}
use Rattle.std.proofs.lemmas.List.Sorted.{IsPermutation-sym}
use Rattle.std.proofs.lemmas.Map.Keys.{IsDistinct-from_sorted, IsDistinct-IsPermutation, sorted_from_all_adjacent}
use Rattle.std.proofs.lemmas.Map.Text.{is_eq-slice_cmp}
use Rattle.std.proofs.lemmas.Slice.Eq.{bytes_eq-Decides}
use Rattle.tml_span.specs.declared.unit.Attr.{Attr}
use Rattle.tml_span.specs.View.{attribute_of}
use Rattle.tml_types.specs.Heads.{are_same, by_heads, head_of, headed_name}
use Rattle.tml_types.specs.declared.repeats.HeadedName.{HeadedName}
use Rattle.tml_types.specs.Rules.{has_name, is_repeated}

-- ---- heads

-- one test holds where the other does, so both hold where the other does
both_by_last : (test last : Bool) → (last ≡ true → test ≡ true) → (test && last) ≡ last
both_by_last true last h = refl
both_by_last false false h = refl
both_by_last false true h = h refl

-- names with their heads are the same exactly where the names are
heads_agree : (attr other : Attr) → are_same (headed_name attr) (headed_name other) ≡ bytes_eq attr.name.now other.name.now
heads_agree attr other =
    both_by_last _ (bytes_eq attr.name.now other.name.now)
    (λ same. eq-eqb (head_of attr.name.now) (head_of other.name.now) (ap head_of ((bytes_eq-Decides attr.name.now other.name.now).0 same)))

-- ---- the names of attributes

-- no attribute has the name of this one
unnamed : (attr : Attr) (attrs : List Attr) → has_name attr.name.now (map attribute_of attrs) ≡ false → AllByRecursion (λ n. are_same (headed_name attr) n ≡ false) (map headed_name attrs)
unnamed attr [] h = tt
unnamed attr (other ∷ attrs) h =
    let s = or_parts _ _ h in
    (heads_agree attr other ∙ nat_list_eq_equiv.symm attr.name.now other.name.now ∙ s.0, unnamed attr attrs s.1)

unnamed_back : (attr : Attr) (attrs : List Attr) → AllByRecursion (λ n. are_same (headed_name attr) n ≡ false) (map headed_name attrs) → has_name attr.name.now (map attribute_of attrs) ≡ false
unnamed_back attr [] h = refl
unnamed_back attr (other ∷ attrs) h = rw (nat_list_eq_equiv.symm other.name.now attr.name.now ∙ sym (heads_agree attr other) ∙ h.0) (unnamed_back attr attrs h.1)

distinct_names : (attrs : List Attr) → is_repeated (map attribute_of attrs) ≡ false → IsDistinct are_same (map headed_name attrs)
unfolding IsDistinct
distinct_names [] h = tt
distinct_names (attr ∷ attrs) h = let s = or_parts _ _ h in (unnamed attr attrs s.0, distinct_names attrs s.1)

distinct_names_back : (attrs : List Attr) → IsDistinct are_same (map headed_name attrs) → is_repeated (map attribute_of attrs) ≡ false
unfolding IsDistinct
distinct_names_back [] h = refl
distinct_names_back (attr ∷ attrs) h = rw (unnamed_back attr attrs h.0) (distinct_names_back attrs h.1)

both_false : (r s : Bool) → (s ≡ false → r ≡ false) → (r ≡ false → s ≡ false) → r ≡ s
both_false r false to from = to refl
both_false false true to from = absurd (true≢false (from refl))
both_false true true to from = refl

-- names in another order repeat one exactly where these do
pub repeats_by_names : (attrs : List Attr) (sorted : List HeadedName) (r : Bool) → IsPermutation (map headed_name attrs) sorted → (r ≡ false) ↔ IsDistinct are_same sorted → r ≡ is_repeated (map attribute_of attrs)
repeats_by_names attrs sorted r moved distinct =
    let names = map headed_name attrs in
    let flips = (and_equiv (on_equiv (λ (n : HeadedName). n.head) nat_eq_equiv) (on_equiv (λ (n : HeadedName). n.name.now) nat_list_eq_equiv)).symm in
    both_false r (is_repeated (map attribute_of attrs)) (λ h. distinct.1 (IsDistinct-IsPermutation are_same flips names sorted moved (distinct_names attrs h)))
    (λ h. distinct_names_back attrs (IsDistinct-IsPermutation are_same flips sorted names (IsPermutation-sym names sorted moved) (distinct.0 h)))

-- ---- a sorted list

-- the names at a place and after it differ
abbrev pub DifferAt : List HeadedName → ℕ → Type 0
DifferAt names k = (d : HeadedName) → are_same (get_or names k d) (get_or names (k + 1) d) ≡ false

is_eq-then : (o p : Ordering) → is_eq (ordering_then o p) ≡ (is_eq o && is_eq p)
is_eq-then Less p = refl
is_eq-then Equal p = refl
is_eq-then Greater p = refl

is_eq-nat_cmp : (x y : ℕ) → is_eq (nat_cmp x y) ≡ (x == y)
is_eq-nat_cmp x y = grind (arith, nat_tests)

is_eq-by_heads : (a b : HeadedName) → is_eq (by_heads a b) ≡ are_same a b
is_eq-by_heads a b =
    is_eq-then (nat_cmp a.head b.head) _
    ∙ (λ i. is_eq-nat_cmp a.head b.head i && is_eq-slice_cmp a.name.now b.name.now i)

only_less : (o p : Ordering) → o ≡ ordering_reverse p → is_lt p ≡ false → is_eq o ≡ false → o ≡ Less
only_less o Less e p q = cc
only_less o Equal e p q = let tie = ap is_eq (sym e) ∙ q in cc
only_less o Greater e p q = e

-- Neighbours that are in order and differ rise strictly, and so do all pairs.
pub distinct_neighbours : (names : List HeadedName) → IsSorted by_heads names → ((k : ℕ) → k + 1 < length names → DifferAt names k) → IsDistinct are_same names
unfolding IsDistinct
distinct_neighbours [] sorted differ = tt
distinct_neighbours (name ∷ names) sorted differ =
    let total = then_total (on_total (λ (n : HeadedName). n.head) nat_cmp_total) (on_total (λ (n : HeadedName). n.name.now) nat_list_cmp_total) in
    let all = name ∷ names in
    let rises : (k : ℕ) → k + 1 < length all → by_heads (get_or all k name) (get_or all (k + 1) name) ≡ Less =
    λ k h. let a = get_or all k name in let b = get_or all (k + 1) name in
    only_less (by_heads a b) (by_heads b a) (total.antisymm a b) (sorted k name (omega arith) h) (is_eq-by_heads a b ∙ differ k h name) in
    subst (λ (same : HeadedName → HeadedName → Bool). IsDistinct same all) (λ i a b. is_eq-by_heads a b i) (IsDistinct-from_sorted by_heads all (sorted_from_all_adjacent total all name rises))
