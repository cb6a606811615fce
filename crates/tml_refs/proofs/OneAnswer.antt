-- Typed tags have one answer.
use Rattle.std.proofs.Common.{◌≡◌, ℕ, List, sym, subst, ◌∙◌}
use Rattle.std.specs.List.{AllZip, filter}
use Rattle.named.proofs.Pairs.{zip_one}
use Rattle.faults.specs.First.{NoneBreaks}
use Rattle.faults.specs.Kinds.{number_of}
use Rattle.faults.proofs.First.{none_or_fault, one_fault}
use Rattle.faults.proofs.Numbered.{kinds_are_numbered}
use Rattle.tml_types.specs.Content as content
use Rattle.tml_types.specs.Content.{PlainTyped, Reference}
use Rattle.tml_types.specs.Places.{place_of}
use Rattle.tml_refs.specs.declared.document.DocLink.{DocLink}
use Rattle.tml_refs.specs.Answers.{OneDocumentAnswers}
use Rattle.tml_refs.specs.Documents.{IsLinkOf, PlainDocument, PlainInterval, RefersTo, Resolved, intervals_of}
use Rattle.tml_refs.specs.Rules.{BreaksReferenceRule, is_tlink}
use Rattle.tml_refs.proofs.Locating.{distinct_names}

module _ (all : List PlainTyped) (sound : NoneBreaks (BreaksReferenceRule all) all) where
  one_end : (r : Reference) (i j : ℕ) → RefersTo (intervals_of all) r i → RefersTo (intervals_of all) r j → i ≡ j
  one_end r i j h k = distinct_names all r.name i j sound (h.interval, h.at, h.name) (k.interval, k.at, k.name)

  one_link : (tag : PlainTyped) (l m : DocLink) → IsLinkOf (intervals_of all) tag l → IsLinkOf (intervals_of all) tag m → l ≡ m
  one_link tag l m = elim tag.content as (λ c. let t : PlainTyped = record { place = tag.place; content = c } in IsLinkOf (intervals_of all) t l → IsLinkOf (intervals_of all) t m → l ≡ m) [
    | content.tlink x ↦ λ h k.
        let a = one_end x.left l.a m.a h.0 k.0 in
        let rel = h.1 ∙ sym k.1 in
        let b = one_end x.right l.b m.b h.2 k.2 in
        λ i. record { a = a i; rel = rel i; b = b i }
    | _ ↦ λ h. absurd h
  ]

links_in : (all : List PlainTyped) (doc : PlainDocument) → Resolved all doc → AllZip (IsLinkOf (intervals_of all)) (filter is_tlink all) doc.links
links_in all doc r = subst (λ (intervals : List PlainInterval). AllZip (IsLinkOf intervals) (filter is_tlink all) doc.links) r.intervals r.links

one_document : (all : List PlainTyped) (doc other : PlainDocument) → Resolved all doc → Resolved all other → doc ≡ other
one_document all doc other r s =
    let counts = r.counts ∙ sym s.counts in
    let intervals = r.intervals ∙ sym s.intervals in
    let links = zip_one (IsLinkOf (intervals_of all)) (one_link all r.sound) (filter is_tlink all) doc.links other.links (links_in all doc r) (links_in all other s) in
    λ i. record { counts = counts i; intervals = intervals i; links = links i }

pub one_answer : OneDocumentAnswers
one_answer = λ all. record {
  document_or_fault = λ doc place rule d f. none_or_fault (BreaksReferenceRule all) number_of place_of all place rule d.sound f;
  one_fault = λ place other rule another. one_fault (BreaksReferenceRule all) number_of place_of kinds_are_numbered all place other rule another;
  one_document = one_document all;
}
