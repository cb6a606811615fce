-- What the tags of a drill say is what was drawn, and they break no rule of identifiers, references and limits.
use Rattle.std.proofs.Common.{◌≡◌, ℕ, ◌+◌, ◌*◌, ◌<◌, ◌≤◌, ◌==◌, Bool, true, false, cond, ◌&&◌, ◌||◌, not, List, [], ◌∷◌, ◌++◌, length, map, refl, sym, ap, subst, ◌∙◌, arith, Option, Some, None}
use Rattle.std.specs.List.{All, AllByRecursion, AllZip, count_by, filter, filter_map, flat_map, list_any, range_with_len}
use Rattle.std.proofs.lemmas.Bool.{and_parts, both_ways, eqb-true}
use Rattle.std.proofs.lemmas.List.{map-append, append-nil}
use Rattle.std.proofs.lemmas.List.Concat.{flat_map_single}
use Rattle.std.proofs.lemmas.List.Elements.{All-from_recursion, filter-append, filter_map-append}
use Rattle.std.proofs.lemmas.List.FromFn.{length-range_with_len, length-map-range_with_len, get_or-map-range_with_len}
use Rattle.std.proofs.lemmas.List.Sums.{sum_by-append}
use Rattle.std.proofs.lemmas.Option.{slice_get-get_or}
use Rattle.named.proofs.Lists.{any_agree, any_map}
use Rattle.faults.specs.declared.kind.FaultKind.{FaultKind}
use Rattle.faults.specs.declared.kind.FaultKind.TheVariants as kinds
use Rattle.named.proofs.Cuts.{inside}
use Rattle.net_core.specs.Limits.{max_intervals, max_links}
use Rattle.tml_refs.specs.declared.document.DocLink.{DocLink}
use Rattle.tml_refs.specs.Documents.{IsLinkOf, PlainInterval, RefersTo, Resolved, counts_of, instance, intervals_of, time}
use Rattle.tml_refs.specs.Rules.{BreaksReferenceRule, has_id, is_interval, is_tlink, is_unknown}
use Rattle.tml_types.specs.declared.typed.TagKind.{TagKind}
use Rattle.tml_types.specs.declared.typed.TagKind.TheVariants as kind
use Rattle.tml_types.specs.Content as content
use Rattle.tml_types.specs.Content.{Content, PlainTyped, Reference}
use Rattle.tml_types.specs.References.{id_of, is_of_kind, reference, references_of}
use Rattle.drill.specs.Texts.{instance_name}
use Rattle.drill.proofs.AcceptedLinks.{HasEnds}
use Rattle.drill.proofs.AcceptedLists.{count_made, count_pieces, fewer_before, filter_made, filter_map_made, filter_map_pieces, filter_pieces, no_pieces, zip_made}
use Rattle.drill.proofs.AcceptedReferences.{AreNew, IsKnown, identifiers_new, is_asked, is_called, is_taken, new_at, references_known}
use Rattle.drill.proofs.AcceptedTags.{content_of, contents_of, interval_contents, link_contents}

-- ---- how many there are of each kind

-- how many of the contents of a drill pass a test, by how many of each interval and of each link do
counted : (p : Content → Bool) (m k n : ℕ) (links : List DocLink) → ((i : ℕ) → count_by p (interval_contents i) ≡ m) → ((link : DocLink) → count_by p (link_contents link) ≡ k)
    → count_by p (contents_of (range_with_len 0 n) links) ≡ m * n + k * length links
counted p m k n links h g =
    sum_by-append (λ c. cond (p c) 1 0) (flat_map interval_contents (range_with_len 0 n)) (flat_map link_contents links)
    ∙ (λ i. (count_pieces p interval_contents m h (range_with_len 0 n) ∙ ap (λ (len : ℕ). m * len) (length-range_with_len 0 n)) i + count_pieces p link_contents k g links i)

-- what a tag says stands for an interval
abbrev is_interval_content : Content → Bool
is_interval_content c = is_of_kind kind.Instance c || is_of_kind kind.Timex c

-- what a tag says stands for a link
abbrev is_link_content : Content → Bool
is_link_content c = is_of_kind kind.Tlink c

-- the interval that what a tag says stands for
abbrev interval_in : Content → Option PlainInterval
interval_in c = elim c [
  | content.instance i ↦ Some (instance i.eiid)
  | content.timex x ↦ Some (time (record { name = x.tid; kind = x.kind; modifier = x.modifier; value = x.value }))
  | _ ↦ None
]

-- what a tag says is that of a link
abbrev IsLinkIn : List PlainInterval → Content → DocLink → Type 0
IsLinkIn intervals c link = elim c [
  | content.tlink l ↦ RefersTo intervals l.left link.a × (link.rel ≡ l.rel) × RefersTo intervals l.right link.b
  | _ ↦ ⊥
]

-- the intervals of a drill
abbrev drill_intervals : ℕ → List PlainInterval
drill_intervals n = map (λ (i : ℕ). instance (instance_name i)) (range_with_len 0 n)

-- each of them is at its number
refers_to : (n i : ℕ) → i < n → RefersTo (drill_intervals n) (reference kind.Instance (instance_name i)) i
refers_to n i low = record {
  interval = instance (instance_name i);
  at = slice_get-get_or (drill_intervals n) i (instance (instance_name i)) (omega (arith, length-map-range_with_len (λ (j : ℕ). instance (instance_name j)) 0 n))
      ∙ ap (λ (v : PlainInterval). Some v) (get_or-map-range_with_len (λ (j : ℕ). instance (instance_name j)) 0 n i i (instance (instance_name i)) low (omega arith));
  kind = refl;
  name = refl;
}

-- the links of the tags are those that were drawn
links_zip : (n : ℕ) (links : List DocLink) → AllByRecursion (HasEnds n) links → AllZip (IsLinkIn (drill_intervals n)) (flat_map link_contents links) links
links_zip n [] h = tt
links_zip n (link ∷ links) h = ((refers_to n link.a h.0.0, refl, refers_to n link.b h.0.1), links_zip n links h.1)

-- ---- tags that say this

module _ (n : ℕ) (links : List DocLink) (tags : List PlainTyped) (says : map content_of tags ≡ contents_of (range_with_len 0 n) links) where
  -- what all tags say
  abbrev all : List Content
  all = contents_of (range_with_len 0 n) links

  -- as many tags pass a test
  tags_counted : (p : Content → Bool) (m k : ℕ) → ((i : ℕ) → count_by p (interval_contents i) ≡ m) → ((link : DocLink) → count_by p (link_contents link) ≡ k) → count_by (λ (t : PlainTyped). p t.content) tags ≡ m * n + k * length links
  tags_counted p m k h g = count_made p content_of tags ∙ ap (count_by p) says ∙ counted p m k n links h g

  -- the number of tags of a kind
  one_kind : (k : TagKind) (a b total : ℕ) → ((i : ℕ) → count_by (is_of_kind k) (interval_contents i) ≡ a) → ((link : DocLink) → count_by (is_of_kind k) (link_contents link) ≡ b) → a * n + b * length links ≡ total
      → total ≡ count_by (λ (t : PlainTyped). is_of_kind k t.content) tags
  one_kind k a b total h g e = sym (tags_counted (is_of_kind k) a b h g ∙ e)

  -- the counts of each kind
  counts_are : record { events = n; instances = n; timex = 0; signals = 0; tlinks = length links; alinks = 0; slinks = 0 } ≡ counts_of tags
  counts_are = λ i. record {
    events = one_kind kind.Event 1 0 n (λ x. refl) (λ x. refl) (omega arith) i;
    instances = one_kind kind.Instance 1 0 n (λ x. refl) (λ x. refl) (omega arith) i;
    timex = one_kind kind.Timex 0 0 0 (λ x. refl) (λ x. refl) (omega arith) i;
    signals = one_kind kind.Signal 0 0 0 (λ x. refl) (λ x. refl) (omega arith) i;
    tlinks = one_kind kind.Tlink 0 1 (length links) (λ x. refl) (λ x. refl) (omega arith) i;
    alinks = one_kind kind.Alink 0 0 0 (λ x. refl) (λ x. refl) (omega arith) i;
    slinks = one_kind kind.Slink 0 0 0 (λ x. refl) (λ x. refl) (omega arith) i;
  }

  -- the intervals of the tags are those of the drill
  intervals_are : drill_intervals n ≡ intervals_of tags
  intervals_are = sym (
      filter_map_made interval_in content_of tags
      ∙ ap (filter_map interval_in) says
      ∙ filter_map-append interval_in (flat_map interval_contents (range_with_len 0 n)) (flat_map link_contents links)
      ∙ (λ i. filter_map_pieces interval_in interval_contents (λ (x : ℕ). instance (instance_name x) ∷ []) (λ x. refl) (range_with_len 0 n) i ++ (filter_map_pieces interval_in link_contents (λ (l : DocLink). []) (λ l. refl) links ∙ no_pieces links) i)
      ∙ append-nil (flat_map (λ (x : ℕ). instance (instance_name x) ∷ []) (range_with_len 0 n))
      ∙ flat_map_single (λ (x : ℕ). instance (instance_name x)) (range_with_len 0 n)
      )

  -- the tags of links say what the links of the drill are
  link_tags : map content_of (filter is_tlink tags) ≡ flat_map link_contents links
  link_tags =
      filter_made is_link_content content_of tags
      ∙ ap (filter is_link_content) says
      ∙ filter-append is_link_content (flat_map interval_contents (range_with_len 0 n)) (flat_map link_contents links)
      ∙ (λ i. (filter_pieces is_link_content interval_contents (λ (x : ℕ). []) (λ x. refl) (range_with_len 0 n) ∙ no_pieces (range_with_len 0 n)) i ++ filter_pieces is_link_content link_contents link_contents (λ l. refl) links i)

  -- the links of the drill are those of these tags
  links_are : AllByRecursion (HasEnds n) links → AllZip (IsLinkOf (drill_intervals n)) (filter is_tlink tags) links
  links_are ends = zip_made (IsLinkIn (drill_intervals n)) content_of (filter is_tlink tags) links (subst (λ (cs : List Content). AllZip (IsLinkIn (drill_intervals n)) cs links) (sym link_tags) (links_zip n links ends))

  -- ---- no tag breaks a rule

  module _ (before after : List PlainTyped) (tag : PlainTyped) (whole : tags ≡ before ++ tag ∷ after) where
    -- what the tags say, where they are cut
    cut : all ≡ map content_of before ++ tag.content ∷ map content_of after
    cut = sym says ∙ ap (map content_of) whole ∙ map-append content_of before (tag ∷ after)

    -- a tag before has an identifier
    abbrev taken : Option (List ℕ) → Bool
    taken o = elim o [ None ↦ false | Some id ↦ list_any (has_id id) before ]

    -- what a tag before says has it
    abbrev taken_in : Option (List ℕ) → Bool
    taken_in o = elim o [ None ↦ false | Some id ↦ list_any (is_called id) (map content_of before) ]

    -- it is the same
    taken_by : (o : Option (List ℕ)) → taken o ≡ taken_in o
    taken_by None = refl
    taken_by (Some id) = sym (any_map content_of (is_called id) before)

    -- its identifier is that of no tag before it
    no_duplicate : n ≤ max_intervals → BreaksReferenceRule tags kinds.DuplicateId before tag → ⊥
    no_duplicate few b =
        let new = new_at [] (map content_of before) (map content_of after) tag.content (subst (AreNew []) cut (identifiers_new n links few)) in
        both_ways (is_taken (map content_of before) tag.content) new (sym (taken_by (id_of tag.content)) ∙ b)

    -- a reference is to no tag exactly where what no tag says is asked for
    unknown_is : (r : Reference) → is_unknown tags r ≡ not (list_any (is_asked r) all)
    unknown_is r = ap not (sym (any_map content_of (is_asked r) tags) ∙ ap (list_any (is_asked r)) says)

    -- its references are to tags that are there
    no_unknown : AllByRecursion (HasEnds n) links → BreaksReferenceRule tags kinds.UnknownReference before tag → ⊥
    no_unknown ends b =
        let known = inside (IsKnown all) (map content_of before) (map content_of after) tag.content (subst (All (IsKnown all)) cut (All-from_recursion (IsKnown all) all (references_known n links ends))) in
        both_ways (list_any (is_unknown tags) (references_of tag.content)) (any_agree (is_unknown tags) (λ (r : Reference). not (list_any (is_asked r) all)) unknown_is (references_of tag.content) ∙ known) b

    -- a tag that passes a test stands after fewer of them than there are
    few_before : (p : PlainTyped → Bool) (most : ℕ) → count_by p tags ≤ most → (p tag && count_by p before == most) ≡ true → ⊥
    few_before p most few b =
        let parts = and_parts (p tag) (count_by p before == most) b in
        absurd (omega (arith, fewer_before p before after tag parts.0, ap (count_by p) whole, few, eqb-true (count_by p before) most parts.1))

    -- it breaks no rule
    breaks_none : n ≤ max_intervals → length links ≤ max_links → AllByRecursion (HasEnds n) links → (rule : FaultKind) → BreaksReferenceRule tags rule before tag → ⊥
    breaks_none few short ends rule =
        let intervals : count_by is_interval tags ≤ max_intervals = omega (arith, tags_counted is_interval_content 1 0 (λ x. refl) (λ x. refl)) in
        let tlinks : count_by is_tlink tags ≤ max_links = omega (arith, tags_counted is_link_content 0 1 (λ x. refl) (λ x. refl)) in
        elim rule as (λ r. BreaksReferenceRule tags r before tag → ⊥) [
          | kinds.DuplicateId ↦ no_duplicate few
          | kinds.UnknownReference ↦ no_unknown ends
          | kinds.TooManyIntervals ↦ few_before is_interval max_intervals intervals
          | kinds.TooManyLinks ↦ few_before is_tlink max_links tlinks
          | _ ↦ λ b. absurd cc
        ]

  -- the tags resolve to what was drawn
  pub resolved : n ≤ max_intervals → length links ≤ max_links → AllByRecursion (HasEnds n) links
      → Resolved tags (record { counts = record { events = n; instances = n; timex = 0; signals = 0; tlinks = length links; alinks = 0; slinks = 0 }; intervals = drill_intervals n; links = links })
  resolved few short ends = record {
    sound = λ before after tag rule whole b. breaks_none before after tag whole few short ends rule b;
    intervals = intervals_are;
    links = links_are ends;
    counts = counts_are;
  }
