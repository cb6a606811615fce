-- Tags that are typed one after another, as the units that begin them are pulled.
use Rattle.std.proofs.Common.{◌≡◌, ℕ, true, false, List, [], ◌∷◌, ◌++◌, append-nil, append_assoc, length, map, refl, sym, ap, subst, ◌∙◌, inr, Option, Some, None, Ok, Err, ◌<◌, arith}
use Rattle.std.specs.List.{cons_option}
use Rattle.std.specs.Option.{option_to_list}
use Rattle.std.proofs.lemmas.List.Elements.{All-append, All-nil, filter_map-append}
use Rattle.tml_span.specs.declared.fault.Cut as cuts
use Rattle.tml_span.specs.declared.unit.Unit.{Unit}
use Rattle.tml_span.specs.Cutter.{BeginsCut, CutsOn}
use Rattle.tml_span.specs.Faults.{HasCutFault}
use Rattle.tml_span.specs.Reader.{Reading}
use Rattle.tml_span.specs.Units.{PlainUnit}
use Rattle.tml_span.specs.View.{unit_of}
use Rattle.tml_span.specs.Whole.{CutsWhole, IsWhole}
use Rattle.tml_span.proofs.Pulling.{left_units, some_cut}
use Rattle.tml_tree.specs.declared.whole.TreeFault.{TreeFault}
use Rattle.tml_tree.specs.declared.whole.TreeFault.TheVariants as tree
use Rattle.tml_tree.specs.Judging.{HavePassed, Passes, Refuses, no_history}
use Rattle.tml_tree.specs.Rules.{History}
use Rattle.tml_tree.specs.Walking.{PlainTag, tag_of, tags_of}
use Rattle.tml_tree.specs.Whole.{HasTreeFault}
use Rattle.tml_tree.proofs.Elements.{elements_are_tags}
use Rattle.tml_tree.proofs.Passed.{passed_none}
use Rattle.tml_tree.proofs.Passing.{passes_on, passed_unclosed, passed_whole, refused}
use Rattle.tml_tree.proofs.Pulling.{units_fault}
use Rattle.tml_types.specs.declared.tag_reader.SourceFault.{SourceFault}
use Rattle.tml_types.specs.declared.tag_reader.SourceFault.TheVariants as faults
use Rattle.tml_types.specs.declared.tag_reader.TagReader.{TagReader}
use Rattle.tml_types.specs.declared.typed.TypedTag.{TypedTag}
use Rattle.tml_types.specs.declared.walk.TypeFault.{TypeFault}
use Rattle.tml_types.specs.Content.{PlainTyped}
use Rattle.tml_types.specs.Places.{HaveRisingPlaces, IsPlaceSmall}
use Rattle.tml_types.specs.Rules.{BreaksNoTagRule}
use Rattle.tml_types.specs.TagReader.{AreTypedSo, HasJudged, HasReadUnits, HasSourceFault, OfUnits, bytes_left, is_complete}
use Rattle.tml_types.specs.View.{typed_of}
use Rattle.tml_types.specs.Walking.{Yields}
use Rattle.tml_types.specs.Whole.{HasTagFault}
use Rattle.tml_types.specs.declared.repeats.NameRoom.{NameRoom}
use Rattle.tml_types.proofs.Rising.{units_placed}
use Rattle.tml_types.proofs.Walks.{fault_of_more, types_append}

-- before the first unit
pub nothing_read : {names : NameRoom} (source : List ℕ) (units : Reading) (h : History) → BeginsCut source units → h ≡ no_history → HasJudged source [] [] (record { units = units; nesting = h; names = names })
nothing_read source units h begins e = record {
  source_is = ap (λ (r : Reading). r.source) begins.0;
  cut = begins.1;
  open_tags = [];
  nodes = [];
  passed = subst (λ (g : History). HavePassed [] [] [] g) (sym e) passed_none;
  known = (record { sound = All-nil BreaksNoTagRule; typed_tags = tt }, All-nil IsPlaceSmall);
}

-- ---- one more unit

one_tag : (o : Option PlainTag) → cons_option o [] ≡ option_to_list o
one_tag None = refl
one_tag (Some tag) = refl

tags_more : (us : List PlainUnit) (u : PlainUnit) → tags_of us ++ option_to_list (tag_of u) ≡ tags_of (us ++ u ∷ [])
tags_more us u = ap (λ (ts : List PlainTag). tags_of us ++ ts) (sym (one_tag (tag_of u))) ∙ sym (filter_map-append tag_of us (u ∷ []))

module _ {source : List ℕ} {us : List PlainUnit} {Known : List PlainTag → Type 0} (old : TagReader) (h : HasReadUnits source us Known old) where
  module _ (units : Reading) (u : Unit) (gives : CutsOn old.units units (Ok (Some u))) where
    -- it passes
    pub reads_on : {names : NameRoom} (More : List PlainTag → Type 0) (nesting : History) → Passes old.nesting (unit_of u).kind nesting → ((tags : List PlainTag) → Known tags → More (tags ++ option_to_list (tag_of (unit_of u))))
        → HasReadUnits source (us ++ unit_of u ∷ []) More (record { units = units; nesting = nesting; names = names })
    reads_on More nesting passes more =
        let p = passes_on us (unit_of u) h.open_tags h.nodes old.nesting nesting h.passed passes in
        record {
          source_is = gives.0 ∙ h.source_is;
          cut = gives.4 us h.cut;
          open_tags = p.0.tags;
          nodes = p.0.nodes;
          passed = p.1;
          known = subst More (tags_more us (unit_of u)) (more (tags_of us) h.known);
        }

    -- or is refused: what is found then is the fault of the source
    pub unit_fault : (f : TreeFault) (found : SourceFault) → Refuses old.nesting (unit_of u).kind (unit_of u).start f
        → ((CutsWhole units.source → HasTreeFault units.source f) → HasSourceFault units.source found) → HasSourceFault source found
    unit_fault f found refuses finds =
        let all : CutsWhole units.source → HasTreeFault units.source f = λ whole.
        let left = left_units units (us ++ unit_of u ∷ []) whole (gives.4 us h.cut) in
        let cut = subst (λ (vs : List PlainUnit). IsWhole (record { source = units.source; units = vs })) (append_assoc us (unit_of u ∷ []) left.0) left.1 in
        units_fault units.source (us ++ unit_of u ∷ left.0) f cut (refused (length units.source) us left.0 (unit_of u) h.open_tags h.nodes old.nesting _ h.passed refuses)
        in
        subst (λ (bytes : List ℕ). HasSourceFault bytes found) (gives.0 ∙ h.source_is) (finds all)

  -- ---- no unit, since the source has a fault of the cut
  pub cut_fault : (units : Reading) (cut : cuts.Cut) → CutsOn old.units units (Err cut) → HasSourceFault source (faults.Cut cut)
  cut_fault units cut gives = subst (λ (bytes : List ℕ). HasCutFault bytes cut) h.source_is gives.1

  -- ---- no more units

  module _ (units : Reading) (gives : CutsOn old.units units (Ok None)) where
    whole : IsWhole (record { source = source; units = us })
    whole = subst (λ (bytes : List ℕ). IsWhole (record { source = bytes; units = us })) h.source_is (gives.2 us h.cut)

    -- where the root was seen whole, what is known of the tags of the units is known of those of the tree
    pub whole_read : is_complete old.nesting ≡ true → OfUnits source us Known
    whole_read e =
        let root = passed_whole us h.open_tags h.nodes old.nesting h.passed e in
        (root.0, whole, root.1, subst Known (sym (elements_are_tags root.0 us root.1)) h.known)

    -- else it is not closed
    pub unclosed_read : is_complete old.nesting ≡ false → HasTreeFault source (tree.Unclosed units.place)
    unclosed_read e =
        (us, whole, inr (refl, ap (λ (r : Reading). r.place) gives.0 ∙ gives.1 ∙ ap length h.source_is, passed_unclosed us h.open_tags h.nodes old.nesting h.passed e))

-- ---- one more tag

-- a unit that begins no tag
pub no_tag : (Known : List PlainTag → Type 0) (o : Option PlainTag) → None ≡ o → (tags : List PlainTag) → Known tags → Known (tags ++ option_to_list o)
no_tag Known o e tags k = subst (λ (p : Option PlainTag). Known (tags ++ option_to_list p)) e (subst Known (sym (append-nil tags)) k)

pub none_typed : (typed : List PlainTyped) (o : Option PlainTag) → None ≡ o → (tags : List PlainTag) → AreTypedSo typed tags → AreTypedSo (typed ++ []) (tags ++ option_to_list o)
none_typed typed o e tags k = subst (λ (ts : List PlainTyped). AreTypedSo ts (tags ++ option_to_list o)) (sym (append-nil typed)) (no_tag (AreTypedSo typed) o e tags k)

-- a tag without a fault after others
typed_after : (typed : List PlainTyped) (tag : PlainTag) (t : Option TypedTag) → Yields tag t → (tags : List PlainTag) → AreTypedSo typed tags → AreTypedSo (typed ++ map typed_of (option_to_list t)) (tags ++ tag ∷ [])
typed_after typed tag t h tags k = (types_append tags (tag ∷ []) typed (map typed_of (option_to_list t)) k.0 h.0, All-append IsPlaceSmall typed (map typed_of (option_to_list t)) k.1 h.1)

pub typed_more : (typed : List PlainTyped) (tag : PlainTag) (t : Option TypedTag) (o : Option PlainTag) → Some tag ≡ o → Yields tag t → (tags : List PlainTag) → AreTypedSo typed tags
    → AreTypedSo (typed ++ map typed_of (option_to_list t)) (tags ++ option_to_list o)
typed_more typed tag t o e h tags k = subst (λ (p : Option PlainTag). AreTypedSo (typed ++ map typed_of (option_to_list t)) (tags ++ option_to_list p)) e (typed_after typed tag t h tags k)

pub typed_same : (typed : List PlainTyped) (tag : PlainTag) (o : Option PlainTag) → Some tag ≡ o → Yields tag None → (tags : List PlainTag) → AreTypedSo typed tags → AreTypedSo typed (tags ++ option_to_list o)
typed_same typed tag o e h tags k = subst (λ (ts : List PlainTyped). AreTypedSo ts (tags ++ option_to_list o)) (append-nil typed) (typed_more typed tag None o e h tags k)

-- the fault of a tag after tags without one
pub fault_comes : (typed : List PlainTyped) (tag : PlainTag) (f : TypeFault) (o : Option PlainTag) → Some tag ≡ o → HasTagFault (tag ∷ []) f → (tags : List PlainTag) → AreTypedSo typed tags → HasTagFault (tags ++ option_to_list o) f
fault_comes typed tag f o e k tags h =
    subst (λ (p : Option PlainTag). HasTagFault (tags ++ option_to_list p) f) e (fault_of_more tags (tag ∷ []) [] (tags ++ tag ∷ []) f (append-nil (tags ++ tag ∷ [])) h.0.sound k)

-- a fault stays that of more tags
pub fault_stays : (f : TypeFault) (more tags : List PlainTag) → HasTagFault tags f → HasTagFault (tags ++ more) f
fault_stays f more tags h = fault_of_more [] tags more (tags ++ more) f refl (All-nil BreaksNoTagRule) h

-- ---- places

-- the typed tags that a reader has given are at places that rise
pub given_placed : (source : List ℕ) (us : List PlainUnit) (typed : List PlainTyped) (r : TagReader) → HasJudged source us typed r → HaveRisingPlaces typed
given_placed source us typed r h =
    let some = some_cut r.units us h.cut in
    units_placed r.units.source some.1 us some.0 typed some.2 h.known.0.typed_tags h.known.1

-- where a unit is pulled fewer bytes are left
pub fewer_left : (old : TagReader) (units : Reading) (nesting : History) (names : NameRoom) (u : Unit) → CutsOn old.units units (Ok (Some u)) → bytes_left (record { units = units; nesting = nesting; names = names }) < bytes_left old
fewer_left old units nesting names u gives = let e : length units.source ≡ length old.units.source = ap length gives.0 in omega (arith, e, gives.1, gives.2)
