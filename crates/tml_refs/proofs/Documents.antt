-- A document without fault.
use Rattle.std.proofs.Common.{◌≡◌, ◌≤◌, ◌<◌, ◌==◌, cond, ◌+◌, List, length, refl, arith, eq-eqb}
use Rattle.std.specs.List.{All, AllZip, count_by, cons_option, filter}
use Rattle.std.proofs.lemmas.Bool.{and_from}
use Rattle.std.proofs.lemmas.List.Elements.{All-weaker}
use Rattle.std.proofs.lemmas.List.Recursion.{is_count_by}
use Rattle.std.proofs.lemmas.List.Sums.{length-filter}
use Rattle.std.proofs.lemmas.Option.{slice_get_within}
use Rattle.std.proofs.lemmas.Slice.Zip.{AllZip-long}
use Rattle.faults.specs.declared.kind.FaultKind.TheVariants.{TooManyIntervals, TooManyLinks}
use Rattle.faults.specs.First.{NoneBreaks}
use Rattle.net_core.specs.Limits.{max_intervals, max_links}
use Rattle.tml_types.specs.Content as content
use Rattle.tml_types.specs.Content.{PlainTyped}
use Rattle.tml_refs.specs.declared.document.DocLink.{DocLink}
use Rattle.tml_refs.specs.Documents.{IsDocument, IsLinkOf, PlainDocument, PlainInterval, Resolved, interval_of, intervals_of}
use Rattle.tml_refs.specs.Rules.{BreaksReferenceRule, is_interval, is_tlink}
use Rattle.tml_refs.proofs.Lists.{all_paired, few}
use Rattle.tml_refs.proofs.Locating.{distinct_names, with_content}

-- ---- limits

pub few_intervals : (all : List PlainTyped) → NoneBreaks (BreaksReferenceRule all) all → count_by is_interval all ≤ max_intervals
few_intervals all sound = few is_interval max_intervals all (λ before after tag e p n. sound before after tag TooManyIntervals e (and_from (is_interval tag) (count_by is_interval before == max_intervals) p (eq-eqb (count_by is_interval before) max_intervals n)))

few_links : (all : List PlainTyped) → NoneBreaks (BreaksReferenceRule all) all → count_by is_tlink all ≤ max_links
few_links all sound = few is_tlink max_links all (λ before after tag e p n. sound before after tag TooManyLinks e (and_from (is_tlink tag) (count_by is_tlink before == max_links) p (eq-eqb (count_by is_tlink before) max_links n)))

interval_counted : (tag : PlainTyped) (ns : List PlainInterval) → length (cons_option (interval_of tag) ns) ≡ cond (is_interval tag) (1 + length ns) (length ns)
interval_counted tag ns = elim tag.content as (λ c. length (cons_option (interval_of (with_content tag c)) ns) ≡ cond (is_interval (with_content tag c)) (1 + length ns) (length ns)) [ content.instance x ↦ omega arith | content.timex x ↦ omega arith | _ ↦ refl ]

pub count_intervals : (tags : List PlainTyped) → length (intervals_of tags) ≡ count_by is_interval tags
count_intervals tags = is_count_by (λ (ts : List PlainTyped). length (intervals_of ts)) is_interval refl (λ tag ts. interval_counted tag (intervals_of ts)) tags

-- ---- ends of links

abbrev EndsIn : List PlainInterval → DocLink → Type 0
EndsIn intervals l = (l.a < length intervals) × (l.b < length intervals)

ends_in : (intervals : List PlainInterval) (tag : PlainTyped) (link : DocLink) → IsLinkOf intervals tag link → EndsIn intervals link
ends_in intervals tag link = elim tag.content as (λ c. IsLinkOf intervals (with_content tag c) link → EndsIn intervals link) [
  | content.tlink l ↦ λ h. (slice_get_within intervals link.a h.0.interval h.0.at, slice_get_within intervals link.b h.2.interval h.2.at)
  | _ ↦ λ h. absurd h
]

all_end : (intervals : List PlainInterval) (tags : List PlainTyped) (links : List DocLink) → AllZip (IsLinkOf intervals) tags links → All (EndsIn intervals) links
all_end intervals tags links h = All-weaker (λ (l : DocLink). (t : PlainTyped) × IsLinkOf intervals t l) (EndsIn intervals) (λ l of. ends_in intervals of.0 l of.1) links (all_paired (IsLinkOf intervals) tags links h)

-- ---- the document

-- what typed tags say is a document
pub resolved_document : (all : List PlainTyped) (doc : PlainDocument) → Resolved all doc → IsDocument doc
resolved_document all doc r = record {
  few_intervals = rw (r.intervals, count_intervals all) (few_intervals all r.sound);
  few_links = rw (AllZip-long (IsLinkOf doc.intervals) (filter is_tlink all) doc.links r.links, length-filter is_tlink all) (few_links all r.sound);
  distinct = λ name i j. rw r.intervals (λ h k. distinct_names all name i j r.sound h k);
  ends = all_end doc.intervals (filter is_tlink all) doc.links r.links;
}
