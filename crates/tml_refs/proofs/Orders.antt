-- The order of keys, which is total.
use Rattle.std.proofs.Common.{◌≡◌, ℕ, false, List, refl, sym, ap, ◌∙◌}
use mathlib.Core.Bool.{true≢false}
use Rattle.std.specs.Cmp.Lexicographic.{bytes_decides, slice_cmp}
use Rattle.std.specs.Ordering.{nat_cmp, is_eq, is_lt, ordering_reverse, ordering_then}
use Rattle.std.specs.declared.cmp.Ordering.{Ordering}
use Rattle.std.specs.declared.cmp.Ordering.TheVariants.{Less, Equal, Greater}
use Rattle.std.specs.Cmp.{IsTotalOrder}
use Rattle.std.proofs.lemmas.Cmp.{nat_cmp_total, nat_list_cmp_total, on_total, ranked, then_total, tied_itself}
use Rattle.std.proofs.lemmas.Map.Text.{is_eq-slice_cmp}
use Rattle.tml_refs.specs.declared.name_index.Key.{Key}
use Rattle.tml_refs.specs.NameIndex.{key_order}

pub key_total : IsTotalOrder key_order
key_total =
    then_total (on_total (λ (k : Key). k.head) nat_cmp_total)
    (then_total (on_total (λ (k : Key). k.name.now) nat_list_cmp_total) (on_total (λ (k : Key). k.rank) nat_cmp_total))

-- ---- keys that compare as equal

then_equal : (a b : Ordering) → ordering_then a b ≡ Equal → (a ≡ Equal) × (b ≡ Equal)
then_equal Less b e = absurd (true≢false (sym (ap is_eq e)))
then_equal Equal b e = (refl, e)
then_equal Greater b e = absurd (true≢false (sym (ap is_eq e)))

equal_numbers : (x y : ℕ) → nat_cmp x y ≡ Equal → x ≡ y
equal_numbers x y e = ranked x y Equal (sym e)

equal_texts : (xs ys : List ℕ) → slice_cmp nat_cmp xs ys ≡ Equal → xs ≡ ys
equal_texts xs ys same = (bytes_decides xs ys).0 (sym (is_eq-slice_cmp xs ys) ∙ ap is_eq same)

pub equal_keys : (k l : Key) → key_order k l ≡ Equal → (k.name.now ≡ l.name.now) × (k.rank ≡ l.rank)
equal_keys k l e =
    let rest = then_equal _ _ (then_equal (nat_cmp k.head l.head) _ e).1 in
    (equal_texts k.name.now l.name.now rest.0, equal_numbers k.rank l.rank rest.1)

pub keys_equal : (k l : Key) → k.head ≡ l.head → k.name.now ≡ l.name.now → k.rank ≡ l.rank → key_order k l ≡ Equal
keys_equal k l head name rank =
    ap (λ (p : ℕ × List ℕ × ℕ). ordering_then (nat_cmp p.0 l.head) (ordering_then (slice_cmp nat_cmp p.1 l.name.now) (nat_cmp p.2 l.rank))) (λ i. (head i, name i, rank i))
    ∙ tied_itself key_total l

-- ---- parts of an order

-- where two answers together are not less, the first is not
pub first_not_less : (a b : Ordering) → is_lt (ordering_then a b) ≡ false → is_lt a ≡ false
first_not_less Less b not_less = not_less
first_not_less Equal b not_less = refl
first_not_less Greater b not_less = refl

-- ---- names

-- keys by their names alone
abbrev pub name_order : Key → Key → Ordering
name_order k l = ordering_then (nat_cmp k.head l.head) (slice_cmp nat_cmp k.name.now l.name.now)

pub name_total : IsTotalOrder name_order
name_total = then_total (on_total (λ (k : Key). k.head) nat_cmp_total) (on_total (λ (k : Key). k.name.now) nat_list_cmp_total)

pub equal_names : (k l : Key) → name_order k l ≡ Equal → k.name.now ≡ l.name.now
equal_names k l e = equal_texts k.name.now l.name.now (then_equal (nat_cmp k.head l.head) _ e).1

pub names_equal : (k l : Key) → k.head ≡ l.head → k.name.now ≡ l.name.now → name_order k l ≡ Equal
names_equal k l head name =
    ap (λ (p : ℕ × List ℕ). ordering_then (nat_cmp p.0 l.head) (slice_cmp nat_cmp p.1 l.name.now)) (λ i. (head i, name i))
    ∙ tied_itself name_total l

names_first : (a b c : Ordering) → is_lt (ordering_then a (ordering_then b c)) ≡ false → is_lt (ordering_then a b) ≡ false
names_first Less b c not_less = not_less
names_first Equal b c not_less = first_not_less b c not_less
names_first Greater b c not_less = refl

-- keys that are not less are not less by their names
pub names_not_less : (k l : Key) → is_lt (key_order k l) ≡ false → is_lt (name_order k l) ≡ false
names_not_less k l h = names_first (nat_cmp k.head l.head) (slice_cmp nat_cmp k.name.now l.name.now) (nat_cmp k.rank l.rank) h

-- what is not less either way is equal
pub neither_less : (r : Ordering) → is_lt r ≡ false → is_lt (ordering_reverse r) ≡ false → r ≡ Equal
neither_less Less h k = absurd (true≢false h)
neither_less Equal h k = refl
neither_less Greater h k = absurd (true≢false k)
