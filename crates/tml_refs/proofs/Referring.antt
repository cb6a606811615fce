-- The references of tags, and the first that is to no tag.
use Rattle.std.proofs.Common.{◌≡◌, ◌<◌, ◌||◌, ℕ, Bool, true, false, min, List, [], ◌∷◌, ◌++◌, map, length, get_or, refl, sym, ap, subst, ◌∙◌, append_assoc, inl, inr, arith, All}
use mathlib.Core.Bool.{true≢false}
use Rattle.std.specs.List.{AllZip, Contains, filter, list_any}
use Rattle.std.proofs.lemmas.List.{get_or-map, get_or_default, length-map, map-append}
use Rattle.std.proofs.lemmas.List.Elements.{All-append, All-cons, All-contains, All-head, All-nil, All-tail, Contains-append_left, Contains-append_right}
use Rattle.std.proofs.lemmas.List.Folds.{list_any_at}
use Rattle.std.proofs.lemmas.Bool.{or_cases}
use Rattle.faults.specs.declared.kind.FaultKind.TheVariants.{UnknownReference}
use Rattle.named.proofs.Cuts.{last_or_before, none_cut}
use Rattle.tml_types.specs.Content as content
use Rattle.tml_types.specs.Content.{Content, PlainTyped, Reference}
use Rattle.tml_types.specs.declared.typed.TagKind.TheVariants as kind
use Rattle.tml_types.specs.References.{is_of_kind, references_of}
use Rattle.tml_refs.specs.declared.asked.AskedReference.{AskedReference}
use Rattle.tml_refs.specs.declared.links.NamedLink.{NamedLink}
use Rattle.tml_refs.specs.declared.name_index.Entry.{Entry}
use Rattle.tml_refs.specs.Asking.{AreAsked, Asks, HasAsked, IsAskedAt, IsAskedIn, IsUnlistedAt, asked_reference}
use Rattle.tml_refs.specs.Firsts.{IsFirstPlace, StandsAt, nowhere}
use Rattle.tml_refs.specs.Linking.{IsLooseAt, IsNamedLink, is_loose}
use Rattle.tml_refs.specs.NameIndex.{AreEntriesOf, is_either_unlisted, is_unlisted, other_references}
use Rattle.tml_refs.specs.Rules.{BreaksReferenceRule, is_tlink, is_unknown}
use Rattle.tml_refs.proofs.Earliest.{earlier_here}
use Rattle.tml_refs.proofs.Failing.{IsPartner, zip_each, zip_only}
use Rattle.tml_refs.proofs.Knowing.{unknown_by_names}
use Rattle.tml_refs.proofs.Lists.{passes_at}
use Rattle.tml_refs.proofs.Locating.{with_content}
use Rattle.tml_refs.proofs.Searches.{inside}

-- ---- appending references

pub asks_both : (place : ℕ) (rs ss : List Reference) (a b c : List AskedReference) → Asks place rs a b → Asks place ss b c → Asks place (rs ++ ss) a c
asks_both place rs ss a b c h k = (
  h.0 ++ k.0,
  map-append asked_reference h.0 k.0 ∙ (λ i. h.1 i ++ k.1 i),
  All-append (IsAskedAt place) h.0 k.0 h.2 k.2,
  k.3 ∙ ap (λ (xs : List AskedReference). xs ++ k.0) h.3 ∙ append_assoc a h.0 k.0,
)

pub none_asked : AreAsked [] []
none_asked = record { each = λ before after tag whole. absurd (none_cut before after tag whole); only = All-nil (IsAskedIn []) }

own_by : (whole more : List AskedReference) (place : ℕ) → ((a : AskedReference) → Contains more a → Contains whole a) → All (IsAskedAt place) more → All (HasAsked whole place) (map asked_reference more)
own_by whole [] place within h = All-nil (HasAsked whole place)
own_by whole (a ∷ more) place within h =
    All-cons (HasAsked whole place) (asked_reference a) (map asked_reference more) (a, within a (0, omega arith, refl), All-head (IsAskedAt place) a more h, refl)
    (own_by whole more place (λ b c. within b (Contains-append_right (a ∷ []) more b c)) (All-tail (IsAskedAt place) a more h))

-- the references of one tag more
pub asked_more : (tags : List PlainTyped) (tag : PlainTyped) (old new : List AskedReference) → AreAsked tags old → Asks tag.place (other_references tag.content) old new → AreAsked (tags ++ tag ∷ []) new
asked_more tags tag old new asked (more, is, at, whole) =
    subst (AreAsked (tags ++ tag ∷ [])) (sym whole)
    (record {
      each = λ before after t cut. elim (last_or_before tags before after tag t cut) [
        | inl k ↦
            let own = subst (All (HasAsked (old ++ more) tag.place)) is (own_by (old ++ more) more tag.place (λ a c. Contains-append_right old more a c) at) in
            subst (λ (u : PlainTyped). All (HasAsked (old ++ more) u.place) (other_references u.content)) k.1 own
        | inr k ↦ λ i d below. let h = asked.each before k.0 t k.1 i d below in (h.0, Contains-append_left old more h.0 h.1, h.2, h.3)
      ];
      only = All-append (IsAskedIn (tags ++ tag ∷ [])) old more
          (λ i d below. let h = asked.only i d below in (h.0, h.1 ++ tag ∷ [], h.2, ap (λ (ts : List PlainTyped). ts ++ tag ∷ []) h.3 ∙ append_assoc h.0 (h.2 ∷ h.1) (tag ∷ []), h.4, h.5))
          (λ i d below.
          let a = get_or more i d in
          let here : get_or (map asked_reference more) i (asked_reference a) ≡ asked_reference a = get_or-map asked_reference more i a (asked_reference a) below ∙ ap asked_reference (get_or_default more i a d below) in
          let inside : i < length (map asked_reference more) = omega (arith, below, length-map more asked_reference) in
          (tags, [], tag, refl, sym (at i d below), subst (λ (rs : List Reference). Contains rs (asked_reference a)) is (i, inside, here)));
    })

-- ---- the ends of links

module _ (names : List Entry) where
  abbrev ends_unlisted : Content → Bool
  ends_unlisted c = elim c [ content.tlink l ↦ is_either_unlisted names l.left l.right | _ ↦ false ]

  or_turned : (a b c : Bool) → (a || (b || c)) ≡ (c || (a || b))
  or_turned true b true = refl
  or_turned true b false = refl
  or_turned false true true = refl
  or_turned false true false = refl
  or_turned false false true = refl
  or_turned false false false = refl

  or_false : (a : Bool) → a ≡ (a || false)
  or_false true = refl
  or_false false = refl

  -- a reference is to no tag: an end of a link, or another
  split : (c : Content) → list_any (is_unlisted names) (references_of c) ≡ (list_any (is_unlisted names) (other_references c) || ends_unlisted c)
  split c = elim c as (λ d. list_any (is_unlisted names) (references_of d) ≡ (list_any (is_unlisted names) (other_references d) || ends_unlisted d)) [
    | content.tlink l ↦ or_turned (is_unlisted names l.left) (is_unlisted names l.right) _
    | _ ↦ or_false _
  ]

  ends_tlink : (c : Content) → ends_unlisted c ≡ true → is_of_kind kind.Tlink c ≡ true
  ends_tlink c = elim c as (λ d. ends_unlisted d ≡ true → is_of_kind kind.Tlink d ≡ true) [ content.tlink l ↦ λ h. refl | _ ↦ λ h. absurd cc ]

  loose_is : (t : PlainTyped) (n : NamedLink) → IsNamedLink t n → is_loose names n ≡ ends_unlisted t.content
  loose_is t n = elim t.content as (λ c. IsNamedLink (with_content t c) n → is_loose names n ≡ ends_unlisted c) [
    | content.tlink l ↦ λ h. λ i. is_either_unlisted names (h.1.0 i) (h.1.2 i)
    | _ ↦ λ h. absurd h.1
  ]

or_true : (a : Bool) → (a || true) ≡ true
or_true true = refl
or_true false = refl

-- ---- the first unknown reference

module _ (all : List PlainTyped) (names : List Entry) (known : AreEntriesOf all names) (asked : List AskedReference) (are : AreAsked all asked) (links : List NamedLink) (named : AllZip IsNamedLink (filter is_tlink all) links) where
  broken_is : (tag : PlainTyped) → (list_any (is_unlisted names) (other_references tag.content) || ends_unlisted names tag.content) ≡ list_any (is_unknown all) (references_of tag.content)
  broken_is tag = sym (split names tag.content) ∙ unknown_by_names all names known (references_of tag.content)

  pub first_unknown : (unlisted loose first : ℕ) → first ≡ min unlisted loose
      → All (λ (a : AskedReference). a.place < unlisted → is_unlisted names (asked_reference a) ≡ false) asked → (unlisted < nowhere → IsUnlistedAt names asked unlisted)
      → All (λ (n : NamedLink). n.place < loose → is_loose names n ≡ false) links → (loose < nowhere → IsLooseAt names links loose)
      → IsFirstPlace (BreaksReferenceRule all UnknownReference) all first
  first_unknown unlisted loose first e before here before_loose here_loose = record {
    none = λ front after tag whole below broken. elim (or_cases _ _ (broken_is tag ∙ broken)) [
      | inl other ↦
          let p = passes_at (is_unlisted names) (other_references tag.content) other in
          let a = All-contains (HasAsked asked tag.place) (other_references tag.content) p.element (are.each front after tag whole) (inside (other_references tag.content) p.before p.after p.element p.whole) in
          let good = All-contains (λ (b : AskedReference). b.place < unlisted → is_unlisted names (asked_reference b) ≡ false) asked a.0 before a.1 (omega (arith, e, below, a.2)) in
          absurd (true≢false (sym p.passes ∙ ap (is_unlisted names) (sym a.3) ∙ good))
      | inr ends ↦
          let n = zip_each IsNamedLink is_tlink all front after tag links whole (ends_tlink names tag.content ends) named in
          let good = All-contains (λ (m : NamedLink). m.place < loose → is_loose names m ≡ false) links n.0 before_loose n.1 (omega (arith, e, below, n.2.0)) in
          absurd (true≢false (sym ends ∙ sym (loose_is names tag n.0 n.2) ∙ good))
    ];
    here = earlier_here (StandsAt (BreaksReferenceRule all UnknownReference) all) unlisted loose first e
        (λ small.
        let a = here small in
        let at = All-contains (IsAskedIn all) asked a.0 are.only a.1 in
        let stands = at.5 in
        let other : list_any (is_unlisted names) (other_references at.2.content) ≡ true = list_any_at (is_unlisted names) (other_references at.2.content) stands.0 (asked_reference a.0) stands.1 (ap (is_unlisted names) stands.2 ∙ a.3) in
        record { before = at.0; tag = at.2; after = at.1; whole = at.3; place_is = at.4 ∙ a.2; broken = sym (broken_is at.2) ∙ ap (λ (b : Bool). b || ends_unlisted names at.2.content) other })
        (λ small.
        let n = here_loose small in
        let at = All-contains (IsPartner IsNamedLink is_tlink all) links n.0 (zip_only IsNamedLink is_tlink all links named) n.1 in
        let ends : ends_unlisted names at.2.content ≡ true = sym (loose_is names at.2 n.0 at.4) ∙ n.3 in
        record { before = at.0; tag = at.2; after = at.1; whole = at.3; place_is = sym at.4.0 ∙ n.2; broken = sym (broken_is at.2) ∙ ap (λ (b : Bool). list_any (is_unlisted names) (other_references at.2.content) || b) ends ∙ or_true _ });
  }
