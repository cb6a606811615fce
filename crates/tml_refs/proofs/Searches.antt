-- What a search for a key finds.
use Rattle.std.proofs.Common.{◌≡◌, ℕ, ◌<◌, ◌==◌, Bool, true, false, List, ◌∷◌, ◌++◌, length, Ok, Err, inl, inr, refl, sym, ap, ◌∙◌, get_or, subst, arith, length-append, eq-eqb, eqb-true}
use mathlib.Core.Bool.{true≢false}
use Rattle.std.specs.List.{Contains, list_any}
use Rattle.std.specs.List.Sorted.{IsBinarySearchResult}
use Rattle.std.specs.Ordering.{is_eq}
use Rattle.std.specs.Str.{bytes_eq}
use Rattle.std.specs.declared.cmp.Ordering.{Ordering}
use Rattle.std.specs.declared.cmp.Ordering.TheVariants.{Equal}
use Rattle.std.proofs.lemmas.Bool.{and_from, cases_lt, and_parts}
use Rattle.std.proofs.lemmas.List.{get_or_at}
use Rattle.std.proofs.lemmas.List.Elements.{All-contains, Contains-get_or}
use Rattle.std.proofs.lemmas.List.Folds.{list_any_at}
use Rattle.std.proofs.lemmas.List.Sorted.{searchable_from_sorted}
use Rattle.std.proofs.lemmas.Slice.Eq.{bytes_eq-Decides}
use Rattle.tml_types.specs.Content.{Reference}
use Rattle.tml_refs.specs.declared.name_index.Entry.{Entry}
use Rattle.tml_refs.specs.declared.name_index.Key.{Key}
use Rattle.tml_refs.specs.NameIndex.{AreEntriesInOrder, HasHead, HasNumber, IsKeyOf, entry_name, head_of, is_for, is_listed, key_of, key_order, rank_of}
use Rattle.tml_refs.proofs.Lists.{passes_at}
use Rattle.tml_refs.proofs.Orders.{equal_keys, key_total, keys_equal}

-- the order of an entry and a key
abbrev pub entry_order : Key → Entry → Ordering
entry_order key e = key_order e.key key

pub inside : {A : Type 0} (xs before after : List A) (x : A) → xs ≡ before ++ x ∷ after → Contains xs x
inside xs before after x e = (length before, omega (arith, ap length e, length-append before (x ∷ after)), ap (λ ys. get_or ys (length before) x) e ∙ get_or_at before x after x (length before) refl)

pub for_both : (r : Reference) (e : Entry) → is_for r e ≡ true → (e.key.rank ≡ rank_of r.asked) × (r.name ≡ entry_name e)
for_both r e h =
    let both = and_parts (e.key.rank == rank_of r.asked) (bytes_eq r.name (entry_name e)) h in
    (eqb-true e.key.rank (rank_of r.asked) both.0, (bytes_eq-Decides r.name (entry_name e)).0 both.1)

pub is_for_both : (r : Reference) (e : Entry) → e.key.rank ≡ rank_of r.asked → r.name ≡ entry_name e → is_for r e ≡ true
is_for_both r e h k = and_from (e.key.rank == rank_of r.asked) (bytes_eq r.name (entry_name e)) (eq-eqb e.key.rank (rank_of r.asked) h) ((bytes_eq-Decides r.name (entry_name e)).1 k)

module _ {entries slice : List Entry} {r : Reference} {key : Key} (same : slice ≡ entries) (order : AreEntriesInOrder entries) (is : IsKeyOf r key) where
  -- an entry that was found is that of a tag that the reference asks for
  found : (at : ℕ) (d : Entry) → at < length slice → IsBinarySearchResult (entry_order key) slice (Ok at) → is_for r (get_or slice at d) ≡ true
  found at d below h =
      let equal = equal_keys (get_or slice at d).key key (h d) in
      is_for_both r (get_or slice at d) (equal.1 ∙ is.rank) (sym is.name ∙ sym equal.0)

  pub found_listed : (at : ℕ) → at < length slice → IsBinarySearchResult (entry_order key) slice (Ok at) → true ≡ is_listed entries r
  found_listed at below h =
      let d : Entry = record { key = key; place = 0; number = 0 } in
      sym (ap (λ (es : List Entry). is_listed es r) (sym same) ∙ list_any_at (is_for r) slice at d below (found at d below h))

  pub found_number : (at : ℕ) (d : Entry) → at < length slice → IsBinarySearchResult (entry_order key) slice (Ok at) → HasNumber entries r (get_or slice at d).number
  found_number at d below h = (get_or slice at d, subst (λ (es : List Entry). Contains es (get_or slice at d)) same (Contains-get_or slice at d below), found at d below h, refl)

  -- where the key is not found, no entry is
  none_equal : (at : ℕ) → IsBinarySearchResult (entry_order key) entries (Err at) → (e : Entry) → Contains entries e → is_for r e ≡ true → ⊥
  none_equal at parted e stands h =
      let both = for_both r e h in
      let own : HasHead e.key = All-contains (λ (d : Entry). HasHead d.key) entries e order.heads stands in
      let equal : entry_order key e ≡ Equal = keys_equal e.key key (own ∙ sym (is.head ∙ ap head_of both.1)) (sym both.1 ∙ sym is.name) (both.0 ∙ sym is.rank) in
      let here : entry_order key (get_or entries stands.0 e) ≡ Equal = ap (entry_order key) stands.2 ∙ equal in
      let rises = searchable_from_sorted key_total key_of entries key order.sorted in
      elim (cases_lt stands.0 at) [
        | inl before ↦ absurd (true≢false (ap is_eq (sym here ∙ (parted rises).0 stands.0 e (omega arith) before)))
        | inr after ↦ absurd (true≢false (ap is_eq (sym here ∙ (parted rises).1 stands.0 e after stands.1)))
      ]

  unlisted_by : (at : ℕ) → IsBinarySearchResult (entry_order key) entries (Err at) → (b : Bool) → list_any (is_for r) entries ≡ b → false ≡ b
  unlisted_by at parted false e = refl
  unlisted_by at parted true e =
      let p = passes_at (is_for r) entries e in
      absurd (none_equal at parted p.element (inside entries p.before p.after p.element p.whole) p.passes)

  pub not_found : (at : ℕ) → IsBinarySearchResult (entry_order key) slice (Err at) → false ≡ is_listed entries r
  not_found at parted = unlisted_by at (subst (λ (es : List Entry). IsBinarySearchResult (entry_order key) es (Err at)) same parted) (is_listed entries r) refl
