-- What typed tags resolve to depends on what they say, and not on where they stand.
use Rattle.std.proofs.Common.{◌≡◌, ℕ, ◌==◌, ◌&&◌, not, Bool, false, List, refl, sym, ap, subst, ◌∙◌, Option, Some, None}
use Rattle.std.specs.List.{AllZip, count_by, filter, list_any}
use Rattle.named.proofs.Lists.{any_agree}
use Rattle.faults.specs.declared.kind.FaultKind.{FaultKind}
use Rattle.faults.specs.declared.kind.FaultKind.TheVariants as kinds
use Rattle.net_core.specs.Limits.{max_intervals, max_links}
use Rattle.tml_refs.specs.declared.document.DocLink.{DocLink}
use Rattle.tml_refs.specs.Documents.{IsLinkOf, PlainDocument, PlainInterval, Resolved, counts_of, intervals_of, interval_of}
use Rattle.tml_refs.specs.Rules.{breaks, has_id, is_interval, is_target, is_tlink, is_unknown}
use Rattle.tml_types.specs.declared.typed.TagKind.{TagKind}
use Rattle.tml_types.specs.declared.typed.TagKind.TheVariants as kind
use Rattle.tml_types.specs.Content.{Content, PlainTyped, Reference}
use Rattle.tml_types.specs.References.{id_of, is_of_kind, references_of}
use Rattle.tml_canon.proofs.Pairs.{pairs_any, pairs_count, pairs_cut, pairs_filter, pairs_made, pairs_turned}

-- two typed tags say the same
abbrev pub SayOne : PlainTyped → PlainTyped → Type 0
SayOne t u = t.content ≡ u.content

-- a test of what a typed tag says passes for both
by_content : {B : Type 0} (f : PlainTyped → B) → ((t : PlainTyped) → f t ≡ f (record { place = 0; content = t.content })) → (t u : PlainTyped) → SayOne t u → f t ≡ f u
by_content f same t u e = same t ∙ ap (λ (c : Content). f (record { place = 0; content = c })) e ∙ sym (same u)

-- one of some tags has this identifier, where there is one
abbrev is_taken : List PlainTyped → Option (List ℕ) → Bool
is_taken before o = elim o [ None ↦ false | Some id ↦ list_any (has_id id) before ]

-- it is taken by the tags of both lists
taken_alike : (first before : List PlainTyped) (o : Option (List ℕ)) → AllZip SayOne first before → is_taken first o ≡ is_taken before o
taken_alike first before None h = refl
taken_alike first before (Some id) h = pairs_any SayOne (has_id id) (has_id id) (by_content (has_id id) (λ t. refl)) first before h

-- how many tags before a tag pass a test that it passes, and how many before the other
limit_alike : (p : PlainTyped → Bool) (most : ℕ) → ((t : PlainTyped) → p t ≡ p (record { place = 0; content = t.content })) → (first before : List PlainTyped) (t u : PlainTyped) → AllZip SayOne first before → SayOne t u
    → (p t && count_by p first == most) ≡ (p u && count_by p before == most)
limit_alike p most same first before t u h e = λ i. by_content p same t u e i && pairs_count SayOne p p (by_content p same) first before h i == most

module _ (tags others : List PlainTyped) (alike : AllZip SayOne tags others) where
  -- a reference that is to no tag of one list is to none of the other
  unknown_alike : (r : Reference) → is_unknown tags r ≡ is_unknown others r
  unknown_alike r = ap not (pairs_any SayOne (is_target r) (is_target r) (by_content (is_target r) (λ t. refl)) tags others alike)

  -- a tag breaks the rules that one breaks that says the same
  breaks_alike : (rule : FaultKind) (first before : List PlainTyped) (t u : PlainTyped) → AllZip SayOne first before → SayOne t u → breaks tags rule first t ≡ breaks others rule before u
  breaks_alike kinds.DuplicateId first before t u h e = taken_alike first before (id_of t.content) h ∙ ap (λ (c : Content). is_taken before (id_of c)) e
  breaks_alike kinds.UnknownReference first before t u h e = any_agree (is_unknown tags) (is_unknown others) unknown_alike (references_of t.content) ∙ ap (λ (c : Content). list_any (is_unknown others) (references_of c)) e
  breaks_alike kinds.TooManyIntervals first before t u h e = limit_alike is_interval max_intervals (λ x. refl) first before t u h e
  breaks_alike kinds.TooManyLinks first before t u h e = limit_alike is_tlink max_links (λ x. refl) first before t u h e
  breaks_alike rule first before t u h e = refl

  -- as many tags are of a kind
  kind_alike : (k : TagKind) → count_by (λ (t : PlainTyped). is_of_kind k t.content) tags ≡ count_by (λ (t : PlainTyped). is_of_kind k t.content) others
  kind_alike k = pairs_count SayOne (λ t. is_of_kind k t.content) (λ t. is_of_kind k t.content) (by_content (λ t. is_of_kind k t.content) (λ t. refl)) tags others alike

  -- so the counts are the same
  counts_alike : counts_of tags ≡ counts_of others
  counts_alike = λ i. record {
    events = kind_alike kind.Event i;
    instances = kind_alike kind.Instance i;
    timex = kind_alike kind.Timex i;
    signals = kind_alike kind.Signal i;
    tlinks = kind_alike kind.Tlink i;
    alinks = kind_alike kind.Alink i;
    slinks = kind_alike kind.Slink i;
  }

  -- and the intervals
  intervals_alike : intervals_of tags ≡ intervals_of others
  intervals_alike = pairs_made SayOne interval_of interval_of (by_content interval_of (λ t. refl)) tags others alike

  -- the links of the one are links of the other
  links_alike : (intervals : List PlainInterval) (links : List DocLink) → AllZip (IsLinkOf intervals) (filter is_tlink tags) links → AllZip (IsLinkOf intervals) (filter is_tlink others) links
  links_alike intervals links h = pairs_turned SayOne (IsLinkOf intervals) (IsLinkOf intervals) (λ t u link e k. subst (λ (c : Content). IsLinkOf intervals (record { place = 0; content = c }) link) e k)
      (filter is_tlink tags) (filter is_tlink others) links (pairs_filter SayOne is_tlink is_tlink (by_content is_tlink (λ t. refl)) tags others alike) h

  -- typed tags that say the same, wherever they stand, resolve to one document
  pub resolved_alike : (doc : PlainDocument) → Resolved tags doc → Resolved others doc
  resolved_alike doc h = record {
    sound = λ before after u rule whole b.
        let cut = pairs_cut SayOne tags before after u (subst (λ (l : List PlainTyped). AllZip SayOne tags l) whole alike) in
        h.sound cut.first cut.last cut.element rule cut.whole (breaks_alike rule cut.first before cut.element u cut.before_agree cut.agrees ∙ b);
    intervals = h.intervals ∙ intervals_alike;
    links = links_alike doc.intervals doc.links h.links;
    counts = h.counts ∙ counts_alike;
  }
