-- What the names of a document say of its tags.
use Rattle.std.proofs.Common.{◌≡◌, ◌==◌, ℕ, true, not, List, ◌∷◌, ◌++◌, length, refl, sym, ap, subst, ◌∙◌, Option, Some, IsSome, eq-eqb, eqb-true}
use Rattle.std.specs.List.{list_any, slice_get}
use Rattle.std.proofs.lemmas.Bool.Decides.{same_from_decides}
use Rattle.std.proofs.lemmas.Bool.{and_from, and_parts}
use Rattle.std.proofs.lemmas.List.Elements.{All-contains}
use Rattle.std.proofs.lemmas.List.Folds.{list_any_at}
use Rattle.std.proofs.lemmas.Option.{same_Some}
use Rattle.named.proofs.Lists.{any_agree}
use Rattle.tml_types.specs.declared.typed.TagKind.{TagKind}
use Rattle.tml_types.specs.declared.typed.TagKind.TheVariants as kind
use Rattle.tml_types.specs.Content as content
use Rattle.tml_types.specs.Content.{Content, PlainTyped, Reference}
use Rattle.tml_types.specs.References.{id_of, is_of_kind, reference}
use Rattle.tml_types.specs.References as references
use Rattle.tml_refs.specs.declared.document.DocLink.{DocLink}
use Rattle.tml_refs.specs.declared.name_index.Entry.{Entry}
use Rattle.tml_refs.specs.Documents.{IsLinkOf, PlainInterval, RefersTo, instance, interval_of, intervals_of, kind_of, interval_name, time}
use Rattle.tml_refs.specs.declared.links.NamedLink.{NamedLink}
use Rattle.tml_types.specs.View.{reference_at_end}
use Rattle.tml_refs.specs.Linking.{IsLinked, IsNamedLink}
use Rattle.tml_refs.specs.NameIndex.{AreEntriesOf, HasNumber, HasIntervalNumber, IsEntryIn, IsEntryOf, IsIndexOf, IsOfIntervals, entry_name, is_for, is_listed, is_unlisted, rank_of}
use Rattle.tml_refs.specs.Rules.{has_id, is_target, is_unknown}
use Rattle.tml_refs.proofs.Lists.{any_inside, filter_map_at, passes_at}
use Rattle.tml_refs.proofs.Locating.{has_own_id, its_id, its_kind, its_own_id, located, with_content}
use Rattle.tml_refs.proofs.Searches.{for_both, inside, is_for_both}

-- ---- kinds

kind_rank : (k : TagKind) (c : Content) → is_of_kind k c ≡ (rank_of (references.kind_of c) == rank_of k)
kind_rank kind.Event c = elim c as (λ d. is_of_kind kind.Event d ≡ (rank_of (references.kind_of d) == rank_of kind.Event)) [ content.event x ↦ refl | _ ↦ refl ]
kind_rank kind.Instance c = elim c as (λ d. is_of_kind kind.Instance d ≡ (rank_of (references.kind_of d) == rank_of kind.Instance)) [ content.instance x ↦ refl | _ ↦ refl ]
kind_rank kind.Timex c = elim c as (λ d. is_of_kind kind.Timex d ≡ (rank_of (references.kind_of d) == rank_of kind.Timex)) [ content.timex x ↦ refl | _ ↦ refl ]
kind_rank kind.Signal c = elim c as (λ d. is_of_kind kind.Signal d ≡ (rank_of (references.kind_of d) == rank_of kind.Signal)) [ content.signal x ↦ refl | _ ↦ refl ]
kind_rank kind.Tlink c = elim c as (λ d. is_of_kind kind.Tlink d ≡ (rank_of (references.kind_of d) == rank_of kind.Tlink)) [ content.tlink x ↦ refl | _ ↦ refl ]
kind_rank kind.Alink c = elim c as (λ d. is_of_kind kind.Alink d ≡ (rank_of (references.kind_of d) == rank_of kind.Alink)) [ content.alink x ↦ refl | _ ↦ refl ]
kind_rank kind.Slink c = elim c as (λ d. is_of_kind kind.Slink d ≡ (rank_of (references.kind_of d) == rank_of kind.Slink)) [ content.slink x ↦ refl | _ ↦ refl ]

-- the interval of a tag of this kind
abbrev IntervalOf : TagKind → PlainTyped → Type 0
IntervalOf k tag = (v : PlainInterval) × (interval_of tag ≡ Some v) × (kind_of v ≡ k)

interval_kind : (k : TagKind) (tag : PlainTyped) → IsOfIntervals k → is_of_kind k tag.content ≡ true → IntervalOf k tag
interval_kind kind.Instance tag of = elim tag.content as (λ c. is_of_kind kind.Instance c ≡ true → IntervalOf kind.Instance (with_content tag c)) [ content.instance x ↦ λ h. (instance x.eiid, refl, refl) | _ ↦ λ h. absurd cc ]
interval_kind kind.Timex tag of = elim tag.content as (λ c. is_of_kind kind.Timex c ≡ true → IntervalOf kind.Timex (with_content tag c)) [ content.timex x ↦ λ h. (time _, refl, refl) | _ ↦ λ h. absurd cc ]
interval_kind k tag of = absurd of

-- what a reference asks for is the interval of this number
pub refers_at : (all : List PlainTyped) (r : Reference) (before after : List PlainTyped) (tag : PlainTyped) → all ≡ before ++ tag ∷ after → IsOfIntervals r.asked → is_target r tag ≡ true → RefersTo (intervals_of all) r (length (intervals_of before))
refers_at all r before after tag whole of target =
    let both = and_parts (is_of_kind r.asked tag.content) (has_id r.name tag) target in
    let v = interval_kind r.asked tag of both.0 in
    record {
      interval = v.0;
      at = ap (λ (ts : List PlainTyped). slice_get (intervals_of ts) (length (intervals_of before))) whole ∙ filter_map_at interval_of before after tag v.0 v.1;
      kind = v.2;
      name = same_Some (interval_name v.0) r.name (sym (its_id tag v.0 v.1) ∙ its_own_id tag r.name both.1);
    }

-- ---- one entry

target_by : (before : List PlainTyped) (tag : PlainTyped) (e : Entry) (r : Reference) → IsEntryOf before tag e → is_for r e ≡ true → is_target r tag ≡ true
target_by before tag e r its h =
    let both = for_both r e h in
    and_from (is_of_kind r.asked tag.content) (has_id r.name tag)
    (kind_rank r.asked tag.content ∙ eq-eqb (rank_of (references.kind_of tag.content)) (rank_of r.asked) (sym its.rank ∙ both.0))
    (has_own_id tag r.name (its.name ∙ ap (λ (n : List ℕ). Some n) (sym both.1)))

for_by : (before : List PlainTyped) (tag : PlainTyped) (e : Entry) (r : Reference) → IsEntryOf before tag e → is_target r tag ≡ true → is_for r e ≡ true
for_by before tag e r its h =
    let both = and_parts (is_of_kind r.asked tag.content) (has_id r.name tag) h in
    is_for_both r e
    (its.rank ∙ eqb-true (rank_of (references.kind_of tag.content)) (rank_of r.asked) (sym (kind_rank r.asked tag.content) ∙ both.0))
    (same_Some r.name (entry_name e) (sym (its_own_id tag r.name both.1) ∙ its.name))

pub some_from : {A : Type 0} (o : Option A) (x : A) → o ≡ Some x → IsSome o
some_from {A} o x e = subst (λ (p : Option A). IsSome p) (sym e) refl

module _ (all : List PlainTyped) (names : List Entry) (known : AreEntriesOf all names) where
  -- ---- what is unknown

  listed_target : (r : Reference) → is_listed names r ≡ true → list_any (is_target r) all ≡ true
  listed_target r h =
      let p = passes_at (is_for r) names h in
      let at : IsEntryIn all p.element = All-contains (IsEntryIn all) names p.element known.only (inside names p.before p.after p.element p.whole) in
      ap (list_any (is_target r)) at.3 ∙ any_inside (is_target r) at.0 at.1 at.2 (target_by at.0 at.2 p.element r at.4 p.passes)

  target_listed : (r : Reference) → list_any (is_target r) all ≡ true → is_listed names r ≡ true
  target_listed r h =
      let p = passes_at (is_target r) all h in
      let both = and_parts (is_of_kind r.asked p.element.content) (has_id r.name p.element) p.passes in
      let e = known.each p.before p.after p.element p.whole (some_from (id_of p.element.content) r.name (its_own_id p.element r.name both.1)) in
      let stands = e.1 in
      list_any_at (is_for r) names stands.0 e.0 stands.1 (ap (is_for r) stands.2 ∙ for_by p.before p.element e.0 r e.2 p.passes)

  unlisted_unknown : (r : Reference) → is_unlisted names r ≡ is_unknown all r
  unlisted_unknown r = ap not (same_from_decides (is_listed names r) (list_any (is_target r) all) (listed_target r, target_listed r) (λ e. e, λ e. e))

  pub unknown_by_names : (refs : List Reference) → list_any (is_unlisted names) refs ≡ list_any (is_unknown all) refs
  unknown_by_names refs = any_agree (is_unlisted names) (is_unknown all) unlisted_unknown refs

  -- ---- numbers of intervals

  refers_by : (r : Reference) (i : ℕ) (before after : List PlainTyped) (tag : PlainTyped) (e : Entry) → all ≡ before ++ tag ∷ after → IsEntryOf before tag e → IsOfIntervals r.asked → is_for r e ≡ true → e.number ≡ i → RefersTo (intervals_of all) r i
  refers_by r i before after tag e whole its of h number = subst (RefersTo (intervals_of all) r) (sym its.number ∙ number) (refers_at all r before after tag whole of (target_by before tag e r its h))

  pub finds_refers : (r : Reference) (i : ℕ) → HasIntervalNumber names r i → RefersTo (intervals_of all) r i
  finds_refers r i h =
      let e = h.1 in
      let at : IsEntryIn all e.0 = All-contains (IsEntryIn all) names e.0 known.only e.1 in
      refers_by r i at.0 at.1 at.2 e.0 at.3 at.4 h.0 e.2 e.3

  each_found : (i : ℕ) (v : PlainInterval) → slice_get (intervals_of all) i ≡ Some v → HasNumber names (reference (kind_of v) (interval_name v)) i
  each_found i v h =
      let l = located all i v h in
      let id = its_id l.tag v l.its in
      let e = known.each l.before l.after l.tag l.whole (some_from (id_of l.tag.content) (interval_name v) id) in
      let asked = is_for_both (reference (kind_of v) (interval_name v)) e.0 (e.2.rank ∙ ap rank_of (its_kind l.tag v l.its)) (same_Some (interval_name v) (entry_name e.0) (sym id ∙ e.2.name)) in
      (e.0, e.1, asked, e.2.number ∙ l.number)

  pub index_is : IsIndexOf (intervals_of all) names
  index_is = record { each = each_found; only = finds_refers }

  -- a link by names is a link of the document
  pub link_named : (tag : PlainTyped) (n : NamedLink) (link : DocLink) → IsNamedLink tag n → IsLinked names n link → IsLinkOf (intervals_of all) tag link
  link_named tag n link = elim tag.content as (λ c. IsNamedLink (with_content tag c) n → IsLinked names n link → IsLinkOf (intervals_of all) (with_content tag c) link) [
    | content.tlink l ↦ λ is h. (subst (λ (r : Reference). RefersTo (intervals_of all) r link.a) is.1.0 (finds_refers (reference_at_end n.left) link.a h.0), h.1 ∙ is.1.1, subst (λ (r : Reference). RefersTo (intervals_of all) r link.b) is.1.2 (finds_refers (reference_at_end n.right) link.b h.2))
    | _ ↦ λ is h. absurd is.1
  ]
