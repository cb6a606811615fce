-- Typed tags make a document or have a fault.
use mathlib.Core.Bool.{Bool-discrete}
use Rattle.std.proofs.Common.{◌≡◌, inl, inr, ℕ, true, false, List, get_or, length, refl, sym, subst}
use Rattle.std.specs.List.{All, AllZip, filter, list_any}
use Rattle.std.proofs.lemmas.Bool.{false_from_ne_true, not-false, or_parts}
use Rattle.std.proofs.lemmas.List.Elements.{All-filter, filter_passes}
use Rattle.named.proofs.Pairs.{partners}
use Rattle.faults.specs.declared.kind.FaultKind.TheVariants as kinds
use Rattle.faults.specs.First.{NoneBreaks}
use Rattle.faults.specs.Kinds.{number_of, all_kinds}
use Rattle.faults.proofs.First.{Sound, all_of_none}
use Rattle.faults.proofs.FirstOrNone.{first_or_none}
use Rattle.faults.proofs.Numbered.{every_kind}
use Rattle.tml_tree.specs.Walking.{PlainTag}
use Rattle.tml_types.specs.declared.typed.TagKind.TheVariants as kind
use Rattle.tml_types.specs.Content as content
use Rattle.tml_types.specs.Content.{PlainTyped, Reference}
use Rattle.tml_types.specs.Places.{place_of}
use Rattle.tml_types.specs.References.{is_of_kind, references_of}
use Rattle.tml_types.specs.Typing.{EndOf, HasFields, TypedAs}
use Rattle.tml_types.specs.Whole.{has_rows}
use Rattle.tml_refs.specs.declared.document.DocLink.{DocLink}
use Rattle.tml_refs.specs.Answers.{AllAreResolved}
use Rattle.tml_refs.specs.Documents.{IsLinkOf, RefersTo, counts_of, intervals_of}
use Rattle.tml_refs.specs.NameIndex.{IsOfIntervals}
use Rattle.tml_refs.specs.Rules.{BreaksReferenceRule, breaks, is_target, is_tlink, is_unknown}
use Rattle.tml_refs.proofs.Knowing.{refers_at}
use Rattle.tml_refs.proofs.Lists.{all_paired, passes_at}
use Rattle.tml_refs.proofs.Locating.{with_content}

-- the end of a link asks for an interval
asks : (tag : PlainTag) (name other : List ℕ) (r : Reference) → EndOf tag.attrs name other r → IsOfIntervals r.asked
asks tag name other r (inl h) = subst IsOfIntervals (sym h.0) tt
asks tag name other r (inr h) = subst IsOfIntervals (sym h.0) tt

module _ (all : List PlainTyped) where
  -- a reference that asks for an interval and is not unknown is to one
  refers : (r : Reference) → IsOfIntervals r.asked → is_unknown all r ≡ false → (i : ℕ) × RefersTo (intervals_of all) r i
  refers r of known =
      let at = passes_at (is_target r) all (not-false (list_any (is_target r) all) known) in
      (length (intervals_of at.before), refers_at all r at.before at.after at.element at.whole of at.passes)

  -- no reference of a tag is unknown
  abbrev IsKnown : PlainTyped → Type 0
  IsKnown t = list_any (is_unknown all) (references_of t.content) ≡ false

  -- a TLINK of which this holds has a link
  link : (t : PlainTyped) (tag : PlainTag) → HasFields tag.attrs t.content → IsKnown t → is_tlink t ≡ true → (link : DocLink) × IsLinkOf (intervals_of all) t link
  link t tag = elim t.content as (λ c. HasFields tag.attrs c → IsKnown (with_content t c) → is_of_kind kind.Tlink c ≡ true → (link : DocLink) × IsLinkOf (intervals_of all) (with_content t c) link) [
    | content.tlink l ↦ λ h known passes.
        let left = or_parts _ _ known in
        let right = or_parts _ _ left.1 in
        let a = refers l.left (asks tag _ _ l.left h.2) left.0 in
        let b = refers l.right (asks tag _ _ l.right h.4) right.0 in
        (record { a = a.0; rel = l.rel; b = b.0 }, (a.1, refl, b.1))
    | _ ↦ λ h known passes. absurd cc
  ]

  -- so have all, where no tag breaks a rule and each is that of a tag of the tree
  links : All (λ (t : PlainTyped). (tag : PlainTag) × TypedAs tag t) all → NoneBreaks (BreaksReferenceRule all) all → (links : List DocLink) × AllZip (IsLinkOf (intervals_of all)) (filter is_tlink all) links
  links typed sound =
      let unknown = λ (_ : Unit {0}) (t : PlainTyped). list_any (is_unknown all) (references_of t.content) ≡ true in
      let known = all_of_none unknown all (λ before after t _ whole b. sound before after t kinds.UnknownReference whole b) in
      partners (IsLinkOf (intervals_of all)) (filter is_tlink all) (λ k d within.
      let tag = All-filter is_tlink (λ (t : PlainTyped). (tag : PlainTag) × TypedAs tag t) all typed k d within in
      link (get_or (filter is_tlink all) k d) tag.0 tag.1.fields (false_from_ne_true _ (All-filter is_tlink (Sound unknown) all known k d within tt)) (filter_passes is_tlink all k d within))

pub all_are_resolved : AllAreResolved
all_are_resolved = λ tags all types. elim (first_or_none (BreaksReferenceRule all) number_of place_of (λ rule before t. Bool-discrete (breaks all rule before t) true) all_kinds every_kind all) [
  | inl fault ↦ inr fault
  | inr sound ↦
      let links = links all (all_paired TypedAs (filter has_rows tags) all types.typed_tags) sound in
      inl (record { counts = counts_of all; intervals = intervals_of all; links = links.0 }, record { sound = sound; intervals = refl; links = links.1; counts = refl })
]
