-- What a resolver has found once all tags are taken.
use Rattle.std.proofs.Common.{◌≡◌, ◌<◌, ℕ, false, min, List, [], ◌∷◌, map, sym, subst, arith, All, Some, None}
use Rattle.std.specs.List.{AllZip, filter}
use Rattle.faults.specs.First.{NoneBreaks}
use Rattle.tml_types.specs.Content.{PlainTyped}
use Rattle.tml_refs.specs.declared.asked.AskedReference.{AskedReference}
use Rattle.tml_refs.specs.declared.document.DocLink.{DocLink}
use Rattle.tml_refs.specs.declared.links.NamedLink.{NamedLink}
use Rattle.tml_refs.specs.declared.name_index.Entry.{Entry}
use Rattle.tml_refs.specs.declared.resolver.Resolver.{Resolver}
use Rattle.tml_refs.specs.declared.resolving.RefFault.{RefFault}
use Rattle.tml_refs.specs.Asking.{IsUnlistedAt, asked_reference}
use Rattle.tml_refs.specs.Documents.{IsLinkOf, PlainDocument, PlainInterval, Resolved, intervals_of}
use Rattle.tml_refs.specs.Firsts.{IsEarliest, bound, nowhere}
use Rattle.tml_refs.specs.Linking.{IsLinked, IsLooseAt, IsNamedLink, is_loose}
use Rattle.tml_refs.specs.NameIndex.{AreEntriesOf, IsFirstRepeat, IsIndexOf, IsIndexedDocument, is_unlisted}
use Rattle.tml_refs.specs.Rules.{BreaksReferenceRule, HasReferenceFault, is_tlink}
use Rattle.tml_refs.specs.Taking.{HasTakenTags}
use Rattle.tml_refs.specs.View.{document_of, plain_interval}
use Rattle.tml_refs.proofs.Documents.{count_intervals, few_intervals, resolved_document}
use Rattle.tml_refs.proofs.Earliest.{earliest_fault, none_at_all}
use Rattle.tml_refs.proofs.Failing.{zip_only}
use Rattle.tml_refs.proofs.Knowing.{index_is, link_named}
use Rattle.tml_refs.proofs.Placing.{place_small}
use Rattle.tml_refs.proofs.Referring.{first_unknown}
use Rattle.tml_refs.proofs.Repeating.{first_taken}

zip_through : {A B C : Type 0} (R : A → B → Type 0) (S : B → C → Type 0) (T : A → C → Type 0) → ((x : A) (y : B) (z : C) → R x y → S y z → T x z) → (xs : List A) (ys : List B) (zs : List C) → AllZip R xs ys → AllZip S ys zs → AllZip T xs zs
zip_through R S T f [] [] [] h k = tt
zip_through R S T f [] [] (z ∷ zs) h k = absurd k
zip_through R S T f [] (y ∷ ys) zs h k = absurd h
zip_through R S T f (x ∷ xs) [] zs h k = absurd h
zip_through R S T f (x ∷ xs) (y ∷ ys) [] h k = absurd k
zip_through R S T f (x ∷ xs) (y ∷ ys) (z ∷ zs) h k = (f x y z h.0 k.0, zip_through R S T f xs ys zs h.1 k.1)

-- What was found of the names, the references and the links.
pub record HasFound (names : List Entry) (asked : List AskedReference) (links : List NamedLink) (repeat unlisted loose : ℕ) : Type 0 where
  pub repeats : IsFirstRepeat names nowhere repeat
  pub before : All (λ (a : AskedReference). a.place < unlisted → is_unlisted names (asked_reference a) ≡ false) asked
  pub here : unlisted < nowhere → IsUnlistedAt names asked unlisted
  pub before_loose : All (λ (n : NamedLink). n.place < loose → is_loose names n ≡ false) links
  pub here_loose : loose < nowhere → IsLooseAt names links loose

module _ {tags : List PlainTyped} {r : Resolver} (taken : HasTakenTags tags r) (names : List Entry) (known : AreEntriesOf tags names) (repeat unlisted loose unknown : ℕ) (found : HasFound names r.asked r.links repeat unlisted loose) (e : unknown ≡ min unlisted loose) where
  pub fault_is : (fault : RefFault) → IsEarliest repeat unknown (bound r.past_intervals) (bound r.past_links) (Some fault) → HasReferenceFault tags fault
  fault_is fault h =
      earliest_fault taken.placed (first_taken tags taken.placed names known repeat found.repeats)
      (first_unknown tags names known r.asked taken.asked r.links taken.links unlisted loose unknown e found.before found.here found.before_loose found.here_loose) taken.past_intervals taken.past_links fault h

  module _ (none : IsEarliest repeat unknown (bound r.past_intervals) (bound r.past_links) None) where
    sound : NoneBreaks (BreaksReferenceRule tags) tags
    sound =
        none_at_all taken.placed (first_taken tags taken.placed names known repeat found.repeats)
        (first_unknown tags names known r.asked taken.asked r.links taken.links unlisted loose unknown e found.before found.here found.before_loose found.here_loose) taken.past_intervals taken.past_links none

    intervals_are : map plain_interval r.contents.intervals ≡ intervals_of tags
    intervals_are = taken.intervals (omega (arith, count_intervals tags, few_intervals tags sound))

    none_loose : All (λ (n : NamedLink). is_loose names n ≡ false) r.links
    none_loose = λ k d below.
        let at = zip_only IsNamedLink is_tlink tags r.links taken.links k d below in
        found.before_loose k d below (omega (arith, e, none.1, at.4.0, place_small tags taken.placed at.0 at.1 at.2 at.3))

    module _ (made : List DocLink) (linked : All (λ (n : NamedLink). is_loose names n ≡ false) r.links → AllZip (IsLinked names) r.links made) where
      abbrev doc : PlainDocument
      doc = document_of (record r.contents { links = made })

      pub resolved : Resolved tags doc
      resolved = record {
        sound = sound;
        intervals = intervals_are;
        links = subst (λ (intervals : List PlainInterval). AllZip (IsLinkOf intervals) (filter is_tlink tags) made) (sym intervals_are)
            (zip_through IsNamedLink (IsLinked names) (IsLinkOf (intervals_of tags)) (link_named tags names known) (filter is_tlink tags) r.links made taken.links (linked none_loose));
        counts = taken.counts;
      }

      pub indexed : IsIndexedDocument doc names
      indexed = (resolved_document tags doc resolved, subst (λ (intervals : List PlainInterval). IsIndexOf intervals names) (sym intervals_are) (index_is tags names known))
