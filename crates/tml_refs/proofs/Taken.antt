-- What a resolver keeps, and one tag more.
use Rattle.std.proofs.Common.{◌≡◌, ◌+◌, ◌<◌, ◌^◌, ◌||◌, ℕ, Bool, true, false, cond, List, [], ◌∷◌, ◌++◌, map, length, refl, sym, ap, subst, ◌∙◌, arith, length-append, Option, None}
use Rattle.std.specs.List.{AllZip, count_by, filter}
use Rattle.std.specs.Option.{option_to_list}
use Rattle.std.proofs.lemmas.List.Elements.{All-nil, filter-append}
use Rattle.std.proofs.lemmas.List.Recursion.{is_count_by}
use Rattle.std.proofs.lemmas.List.Sums.{count_by-le-length, length-filter, sum_by-cons}
use Rattle.std.proofs.lemmas.Slice.Zip.{AllZip-long}
use Rattle.faults.specs.declared.kind.FaultKind.TheVariants.{TooManyIntervals, TooManyLinks}
use Rattle.named.proofs.Cuts.{none_cut}
use Rattle.named.proofs.Lists.{filter_map_more}
use Rattle.named.proofs.Pairs.{zip_append}
use Rattle.net_core.specs.Limits.{max_intervals, max_links}
use Rattle.tml_types.specs.declared.typed.TagKind.{TagKind}
use Rattle.tml_types.specs.declared.typed.TagKind.TheVariants as kind
use Rattle.tml_types.specs.Content as content
use Rattle.tml_types.specs.Content.{Content, PlainTyped}
use Rattle.tml_types.specs.Places.{HaveRisingPlaces, IsPlaceSmall}
use Rattle.tml_types.specs.References.{id_of, is_of_kind, kind_of}
use Rattle.tml_refs.specs.declared.asked.AskedReference.{AskedReference}
use Rattle.tml_refs.specs.declared.document.Counts.{Counts}
use Rattle.tml_refs.specs.declared.links.NamedLink.{NamedLink}
use Rattle.tml_refs.specs.declared.name_index.Entry.{Entry}
use Rattle.tml_refs.specs.declared.resolver.Resolver.{Resolver}
use Rattle.tml_refs.specs.Asking.{AreAsked, Asks}
use Rattle.tml_refs.specs.Counting.{IsOneMore, one_at}
use Rattle.tml_refs.specs.Documents.{PlainInterval, count_of, counts_of, interval_of, intervals_of}
use Rattle.tml_refs.specs.Firsts.{IsFirstPlace, bound, nowhere}
use Rattle.tml_refs.specs.Linking.{IsNamedLink}
use Rattle.tml_refs.specs.NameIndex.{AreEntriesOf, IsEntryIn, IsEntryOf, other_references}
use Rattle.tml_refs.specs.Rules.{BreaksReferenceRule, is_interval, is_tlink}
use Rattle.tml_refs.specs.Taking.{AddsTag, HasTakenTags}
use Rattle.tml_refs.specs.View.{plain_interval}
use Rattle.tml_refs.proofs.Documents.{count_intervals}
use Rattle.tml_refs.proofs.Earliest.{past_more}
use Rattle.tml_refs.proofs.Listing.{entries_more, entries_same}
use Rattle.tml_refs.proofs.Lists.{count_more}
use Rattle.tml_refs.proofs.Referring.{asked_more, none_asked}

-- ---- no tags

no_entries : AreEntriesOf [] []
no_entries = record {
  each = λ before after tag whole some. absurd (none_cut before after tag whole);
  only = All-nil (IsEntryIn []);
  apart = λ place. omega arith;
}

none_first : (breaks : List PlainTyped → PlainTyped → Type 0) → IsFirstPlace breaks [] nowhere
none_first breaks = record { none = λ before after tag whole below broken. none_cut before after tag whole; here = λ small. absurd (omega (arith, small)) }

pub none_taken : (r : Resolver) → r.entries ≡ [] → r.asked ≡ [] → r.contents.counts ≡ counts_of [] → r.contents.intervals ≡ [] → r.contents.links ≡ [] → r.links ≡ [] → r.past_intervals ≡ None → r.past_links ≡ None → HasTakenTags [] r
none_taken r entries asked counts intervals no_links links past_intervals past_links = record {
  placed = record { rising = tt; small = All-nil IsPlaceSmall; few = omega arith };
  entries = subst (AreEntriesOf []) (sym entries) no_entries;
  asked = subst (AreAsked []) (sym asked) none_asked;
  counts = counts;
  intervals = λ few. ap (map plain_interval) intervals;
  no_links = no_links;
  links = subst (λ (ns : List NamedLink). AllZip IsNamedLink [] ns) (sym links) tt;
  past_intervals = subst (λ (o : Option ℕ). IsFirstPlace (BreaksReferenceRule [] TooManyIntervals) [] (bound o)) (sym past_intervals) (none_first (BreaksReferenceRule [] TooManyIntervals));
  past_links = subst (λ (o : Option ℕ). IsFirstPlace (BreaksReferenceRule [] TooManyLinks) [] (bound o)) (sym past_links) (none_first (BreaksReferenceRule [] TooManyLinks));
}

-- ---- counts

one_kind : (k : TagKind) (c : Content) → one_at k (kind_of c) ≡ cond (is_of_kind k c) 1 0
one_kind kind.Event c = elim c as (λ d. one_at kind.Event (kind_of d) ≡ cond (is_of_kind kind.Event d) 1 0) [ content.event x ↦ refl | _ ↦ refl ]
one_kind kind.Instance c = elim c as (λ d. one_at kind.Instance (kind_of d) ≡ cond (is_of_kind kind.Instance d) 1 0) [ content.instance x ↦ refl | _ ↦ refl ]
one_kind kind.Timex c = elim c as (λ d. one_at kind.Timex (kind_of d) ≡ cond (is_of_kind kind.Timex d) 1 0) [ content.timex x ↦ refl | _ ↦ refl ]
one_kind kind.Signal c = elim c as (λ d. one_at kind.Signal (kind_of d) ≡ cond (is_of_kind kind.Signal d) 1 0) [ content.signal x ↦ refl | _ ↦ refl ]
one_kind kind.Tlink c = elim c as (λ d. one_at kind.Tlink (kind_of d) ≡ cond (is_of_kind kind.Tlink d) 1 0) [ content.tlink x ↦ refl | _ ↦ refl ]
one_kind kind.Alink c = elim c as (λ d. one_at kind.Alink (kind_of d) ≡ cond (is_of_kind kind.Alink d) 1 0) [ content.alink x ↦ refl | _ ↦ refl ]
one_kind kind.Slink c = elim c as (λ d. one_at kind.Slink (kind_of d) ≡ cond (is_of_kind kind.Slink d) 1 0) [ content.slink x ↦ refl | _ ↦ refl ]

one_counted : (k : TagKind) (tags : List PlainTyped) (tag : PlainTyped) (old new : ℕ) → old ≡ count_of k tags → new ≡ old + one_at k (kind_of tag.content) → new ≡ count_of k (tags ++ tag ∷ [])
one_counted k tags tag old new h e = omega (arith, e, h, one_kind k tag.content, count_more (λ (t : PlainTyped). is_of_kind k t.content) tags tag)

counts_more : (tags : List PlainTyped) (tag : PlainTyped) (old new : Counts) → old ≡ counts_of tags → IsOneMore (kind_of tag.content) old new → new ≡ counts_of (tags ++ tag ∷ [])
counts_more tags tag old new is counts = λ i. record {
  events = one_counted kind.Event tags tag old.events new.events (ap (λ (c : Counts). c.events) is) counts.events i;
  instances = one_counted kind.Instance tags tag old.instances new.instances (ap (λ (c : Counts). c.instances) is) counts.instances i;
  timex = one_counted kind.Timex tags tag old.timex new.timex (ap (λ (c : Counts). c.timex) is) counts.timex i;
  signals = one_counted kind.Signal tags tag old.signals new.signals (ap (λ (c : Counts). c.signals) is) counts.signals i;
  tlinks = one_counted kind.Tlink tags tag old.tlinks new.tlinks (ap (λ (c : Counts). c.tlinks) is) counts.tlinks i;
  alinks = one_counted kind.Alink tags tag old.alinks new.alinks (ap (λ (c : Counts). c.alinks) is) counts.alinks i;
  slinks = one_counted kind.Slink tags tag old.slinks new.slinks (ap (λ (c : Counts). c.slinks) is) counts.slinks i;
}

-- a tag is an instance or a time or no interval
one_interval : (c : Content) → cond (is_of_kind kind.Instance c) 1 0 + cond (is_of_kind kind.Timex c) 1 0 ≡ cond (is_of_kind kind.Instance c || is_of_kind kind.Timex c) 1 0
one_interval c = elim c as (λ d. cond (is_of_kind kind.Instance d) 1 0 + cond (is_of_kind kind.Timex d) 1 0 ≡ cond (is_of_kind kind.Instance d || is_of_kind kind.Timex d) 1 0) [ content.instance x ↦ refl | content.timex x ↦ refl | _ ↦ refl ]

one_or_none : (b : Bool) (n : ℕ) → cond b (1 + n) n ≡ cond b 1 0 + n
one_or_none true n = omega arith
one_or_none false n = omega arith

abbrev both_kinds : List PlainTyped → ℕ
both_kinds tags = count_of kind.Instance tags + count_of kind.Timex tags

both_next : (tag : PlainTyped) (tags : List PlainTyped) → both_kinds (tag ∷ tags) ≡ cond (is_interval tag) (1 + both_kinds tags) (both_kinds tags)
both_next tag tags =
    let instances = sum_by-cons (λ (t : PlainTyped). cond (is_of_kind kind.Instance t.content) 1 0) tag tags in
    let times = sum_by-cons (λ (t : PlainTyped). cond (is_of_kind kind.Timex t.content) 1 0) tag tags in
    omega (arith, instances, times, one_interval tag.content, one_or_none (is_interval tag) (both_kinds tags))

pub intervals_counted : (tags : List PlainTyped) → both_kinds tags ≡ length (intervals_of tags)
intervals_counted tags = is_count_by both_kinds is_interval refl both_next tags ∙ sym (count_intervals tags)

pub number_is : (tags : List PlainTyped) (counts : Counts) → counts ≡ counts_of tags → counts.instances + counts.timex ≡ length (intervals_of tags)
number_is tags counts e = ap (λ (c : Counts). c.instances + c.timex) e ∙ intervals_counted tags

-- ---- one tag more

module _ {tags : List PlainTyped} (t : PlainTyped) {old : Resolver} (taken : HasTakenTags tags old) (placed : HaveRisingPlaces (tags ++ t ∷ [])) where
  -- its entry, where it has one
  pub with_entry : (number : ℕ) (e : Entry) (entries : List Entry) → number ≡ old.contents.counts.instances + old.contents.counts.timex → ((before : List PlainTyped) → number ≡ length (intervals_of before) → IsEntryOf before t e)
      → entries ≡ old.entries ++ e ∷ [] → AreEntriesOf (tags ++ t ∷ []) entries
  with_entry number e entries n its is = subst (AreEntriesOf (tags ++ t ∷ [])) (sym is) (entries_more tags t old.entries e placed taken.entries (its tags (n ∙ number_is tags old.contents.counts taken.counts)))

  pub without_entry : (entries : List Entry) → id_of t.content ≡ None → entries ≡ old.entries → AreEntriesOf (tags ++ t ∷ []) entries
  without_entry entries none is = subst (AreEntriesOf (tags ++ t ∷ [])) (sym is) (entries_same tags t old.entries taken.entries none)

  pub taken_more : (number : ℕ) → number ≡ old.contents.counts.instances + old.contents.counts.timex → (between : Resolver) → between ≡ record old { entries = between.entries } → AreEntriesOf (tags ++ t ∷ []) between.entries
      → (asked : List AskedReference) → Asks t.place (other_references t.content) between.asked asked → (added : Resolver) → AddsTag (record between { asked = asked }) number t added
      → (counts : Counts) → IsOneMore (kind_of t.content) added.contents.counts counts → HasTakenTags (tags ++ t ∷ []) (record added { contents = record added.contents { counts = counts } })
  taken_more number n between same names asked asks added adds counts one =
      let all : intervals_of (tags ++ t ∷ []) ≡ intervals_of tags ++ option_to_list (interval_of t) = filter_map_more interval_of tags t in
      let before : number ≡ length (intervals_of tags) = n ∙ number_is tags old.contents.counts taken.counts in
      let links_long : length between.links ≡ count_by is_tlink tags = ap (λ (r : Resolver). length r.links) same ∙ AllZip-long IsNamedLink (filter is_tlink tags) old.links taken.links ∙ length-filter is_tlink tags in
      record {
        placed = placed;
        entries = subst (AreEntriesOf (tags ++ t ∷ [])) (sym adds.entries) names;
        asked = subst (AreAsked (tags ++ t ∷ [])) (sym adds.asked) (asked_more tags t between.asked asked (subst (AreAsked tags) (sym (ap (λ (r : Resolver). r.asked) same)) taken.asked) asks);
        counts = counts_more tags t added.contents.counts counts (adds.counts ∙ ap (λ (r : Resolver). r.contents.counts) same ∙ taken.counts) one;
        intervals = λ few.
            let long : length (intervals_of (tags ++ t ∷ [])) ≡ length (intervals_of tags) + length (option_to_list (interval_of t)) = ap length all ∙ length-append (intervals_of tags) (option_to_list (interval_of t)) in
            adds.intervals (omega (arith, few, long, before))
            ∙ ap (λ (ns : List PlainInterval). ns ++ option_to_list (interval_of t)) (ap (λ (r : Resolver). map plain_interval r.contents.intervals) same ∙ taken.intervals (omega (arith, few, long)))
            ∙ sym all;
        no_links = adds.no_links ∙ ap (λ (r : Resolver). r.contents.links) same ∙ taken.no_links;
        links = subst (λ (p : List PlainTyped × List NamedLink). AllZip IsNamedLink p.0 p.1) (λ i. (sym (filter-append is_tlink tags (t ∷ [])) i, sym (adds.links.2 ∙ ap (λ (r : Resolver). r.links ++ adds.links.0) same) i))
            (zip_append IsNamedLink (filter is_tlink tags) (filter is_tlink (t ∷ [])) old.links adds.links.0 taken.links adds.links.1);
        past_intervals = past_more is_interval max_intervals tags t between.past_intervals added.past_intervals number adds.past_intervals (before ∙ count_intervals tags)
            (subst (λ (r : Resolver). IsFirstPlace (BreaksReferenceRule [] TooManyIntervals) tags (bound r.past_intervals)) (sym same) taken.past_intervals);
        past_links = past_more is_tlink max_links tags t between.past_links added.past_links (length between.links) adds.past_links links_long
            (subst (λ (r : Resolver). IsFirstPlace (BreaksReferenceRule [] TooManyLinks) tags (bound r.past_links)) (sym same) taken.past_links);
      }

-- there are few intervals
pub few_intervals_taken : {tags : List PlainTyped} {old : Resolver} → HasTakenTags tags old → old.contents.counts.instances + old.contents.counts.timex < 2 ^ 32
few_intervals_taken {tags} {old} taken = omega (arith, number_is tags old.contents.counts taken.counts, count_intervals tags, count_by-le-length is_interval tags, taken.placed.few)
