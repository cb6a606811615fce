-- The entries of some tags, and of one tag more.
use Rattle.std.proofs.Common.{◌≡◌, ℕ, suc, ◌+◌, ◌<◌, ◌≤◌, Bool, true, false, cond, List, [], ◌∷◌, ◌++◌, get_or, refl, sym, ap, subst, ◌∙◌, inl, inr, append_assoc, arith, Option, None, IsSome, eqb-true}
use Rattle.std.specs.List.{All, count_by}
use mathlib.Core.Bool.{true≢false}
use Rattle.std.proofs.lemmas.List.Elements.{All-push, Contains-append_left, Contains-push}
use Rattle.std.proofs.lemmas.List.Sums.{sum_by-cons}
use Rattle.named.proofs.Cuts.{last_or_before}
use Rattle.tml_types.specs.Content.{PlainTyped}
use Rattle.tml_types.specs.References.{id_of}
use Rattle.tml_refs.specs.declared.name_index.Entry.{Entry}
use Rattle.tml_refs.specs.NameIndex.{AreEntriesOf, IsEntryIn, IsEntryOf, is_at}
use Rattle.tml_types.specs.Places.{HaveRisingPlaces}
use Rattle.tml_refs.proofs.Lists.{count_more}
use Rattle.tml_refs.proofs.Placing.{before_last}

-- ---- one tag more

-- entries of some tags are entries of more
kept : (tags : List PlainTyped) (tag : PlainTyped) (entries : List Entry) → All (IsEntryIn tags) entries → All (IsEntryIn (tags ++ tag ∷ [])) entries
kept tags tag entries h = λ k d below.
    let e = h k d below in
    (e.0, e.1 ++ tag ∷ [], e.2, ap (λ (ts : List PlainTyped). ts ++ tag ∷ []) e.3 ∙ append_assoc e.0 (e.2 ∷ e.1) (tag ∷ []), e.4)

count_none : (p : Entry → Bool) (xs : List Entry) → All (λ (e : Entry). p e ≡ false) xs → count_by p xs ≡ 0
count_none p [] h = refl
count_none p (x ∷ xs) h =
    let rest = count_none p xs (λ k d below. h (suc k) d (omega (arith, below))) in
    let first : ◌≡◌ {A = ℕ} (cond (p x) 1 0) 0 = ap (λ (b : Bool). cond b 1 0) (h 0 x (omega arith)) in
    omega (arith, sum_by-cons (λ (y : Entry). cond (p y) 1 0) x xs, rest, first)

other_place : (place : ℕ) (e : Entry) (b : Bool) → is_at place e ≡ b → e.place < place → b ≡ false
other_place place e true t below = absurd (omega (arith, eqb-true e.place place t))
other_place place e false t below = refl

-- the entries so far are at places before the next
below_end : (tags : List PlainTyped) (tag : PlainTyped) (entries : List Entry) → HaveRisingPlaces (tags ++ tag ∷ []) → All (IsEntryIn tags) entries → All (λ (e : Entry). is_at tag.place e ≡ false) entries
below_end tags tag entries placed h = λ k d below.
    let e = h k d below in
    other_place tag.place (get_or entries k d) (is_at tag.place (get_or entries k d)) refl (omega (arith, e.4.place, before_last tags tag e.0 e.1 e.2 placed e.3))

apart_by : (tags : List PlainTyped) (tag : PlainTyped) (entries : List Entry) (e : Entry) (place : ℕ) (b : Bool) → HaveRisingPlaces (tags ++ tag ∷ []) → is_at place e ≡ b → All (IsEntryIn tags) entries → e.place ≡ tag.place → count_by (is_at place) entries ≤ 1
    → count_by (is_at place) (entries ++ e ∷ []) ≡ count_by (is_at place) entries + cond b 1 0 → count_by (is_at place) (entries ++ e ∷ []) ≤ 1
apart_by tags tag entries e place true placed t only at few more =
    let same : tag.place ≡ place = sym at ∙ eqb-true e.place place t in
    let none = count_none (is_at place) entries (subst (λ (n : ℕ). All (λ (x : Entry). is_at n x ≡ false) entries) same (below_end tags tag entries placed only)) in
    omega (arith, none, more)
apart_by tags tag entries e place false placed t only at few more = omega (arith, few, more)

pub entries_more : (tags : List PlainTyped) (tag : PlainTyped) (entries : List Entry) (e : Entry) → HaveRisingPlaces (tags ++ tag ∷ []) → AreEntriesOf tags entries → IsEntryOf tags tag e → AreEntriesOf (tags ++ tag ∷ []) (entries ++ e ∷ [])
entries_more tags tag entries e placed names its = record {
  each = λ before after t whole some. elim (last_or_before tags before after tag t whole) [
    | inl k ↦ (e, Contains-push entries e, subst (λ (p : List PlainTyped × PlainTyped). IsEntryOf p.0 p.1 e) (λ i. (k.0 i, k.1 i)) its)
    | inr k ↦ let old = names.each before k.0 t k.1 some in (old.0, Contains-append_left entries (e ∷ []) old.0 old.1, old.2)
  ];
  only = All-push (IsEntryIn (tags ++ tag ∷ [])) entries e (kept tags tag entries names.only) (tags, [], tag, refl, its);
  apart = λ place. apart_by tags tag entries e place (is_at place e) placed refl names.only its.place (names.apart place) (count_more (is_at place) entries e);
}

none_some : (tag : PlainTyped) → id_of tag.content ≡ None → IsSome (id_of tag.content) → ⊥
none_some tag e h = absurd (true≢false (sym (subst (λ (o : Option (List ℕ)). IsSome o) e h)))

pub entries_same : (tags : List PlainTyped) (tag : PlainTyped) (entries : List Entry) → AreEntriesOf tags entries → id_of tag.content ≡ None → AreEntriesOf (tags ++ tag ∷ []) entries
entries_same tags tag entries names none = record {
  each = λ before after t whole some. elim (last_or_before tags before after tag t whole) [
    | inl k ↦ absurd (none_some t (ap (λ (u : PlainTyped). id_of u.content) (sym k.1) ∙ none) some)
    | inr k ↦ names.each before k.0 t k.1 some
  ];
  only = kept tags tag entries names.only;
  apart = names.apart;
}
