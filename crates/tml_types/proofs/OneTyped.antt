-- The typed tags of some tags are the only ones.
use Rattle.std.proofs.Common.{◌≡◌, ℕ, false, true, not, ◌&&◌, ◌||◌, List, [], ◌∷◌, codes, refl, sym, ap, subst, ◌∙◌, inl, inr, rules, Option, Some, None, option_map, All}
use Rattle.std.specs.List.{AllZip, filter, list_any}
use Rattle.std.proofs.lemmas.List.Elements.{All-filter, All-head, All-tail}
use Rattle.std.proofs.lemmas.Option.{same_Some}
use Rattle.named.specs.Texts.{AreApart}
use Rattle.named.proofs.Tables.{texts_tell}
use Rattle.faults.specs.declared.kind.FaultKind.TheVariants as kinds
use Rattle.net_core.specs.Rels.{rel_text, all_rels}
use Rattle.timex_value.proofs.Valuing as valuing
use Rattle.timex_value.specs.declared.value.Value.{Value}
use Rattle.timex_value.specs.Kinds.{kind_text, all_kinds, modifier_text, all_modifiers}
use Rattle.tml_span.specs.Units.{Attribute}
use Rattle.tml_tree.specs.declared.tag_name.TagName.TheVariants as tag
use Rattle.tml_tree.specs.Walking.{PlainTag}
use Rattle.net_core.proofs.RelLaws.{rels_apart}
use Rattle.tml_types.specs.Content.{Content, PlainTyped, Reference, event, instance, timex, signal, tlink, alink, slink}
use Rattle.tml_types.specs.Listed as listed
use Rattle.tml_types.specs.References.{kind_of, tag_name}
use Rattle.tml_types.specs.Rules.{BreaksNoTagRule, is_absent, is_conflict}
use Rattle.tml_types.specs.Table.{rows_at, attribute_rows}
use Rattle.tml_types.specs.Typing.{EndOf, HasFields, IsValueOf, TypedAs}
use Rattle.tml_types.specs.Values.{truth_text, all_truths, value_of}
use Rattle.tml_types.specs.Whole.{Types, has_rows}
use Rattle.tml_types.proofs.KindNames.{names_differ}
use Rattle.tml_types.proofs.OneRule.{rows_known}

-- ---- the texts of values tell them apart

classes : AreApart listed.class_text listed.all_classes
classes = search rules

tenses : AreApart listed.tense_text listed.all_tenses
tenses = search rules

aspects : AreApart listed.aspect_text listed.all_aspects
aspects = search rules

parts : AreApart listed.pos_text listed.all_pos
parts = search rules

polarities : AreApart listed.polarity_text listed.all_polarities
polarities = search rules

functions : AreApart listed.function_text listed.all_functions
functions = search rules

truths : AreApart truth_text all_truths
truths = search rules

timex_kinds : AreApart kind_text all_kinds
timex_kinds = search rules

modifiers : AreApart modifier_text all_modifiers
modifiers = search rules

aspect_rels : AreApart listed.aspect_rel_text listed.all_aspect_rels
aspect_rels = search rules

sub_rels : AreApart listed.sub_rel_text listed.all_sub_rels
sub_rels = search rules

-- ---- one attribute has one value

one_text : (value : Option (List ℕ)) (s t : List ℕ) → value ≡ Some s → value ≡ Some t → s ≡ t
one_text value s t h k = same_Some s t (sym h ∙ k)

one_value : {T : Type 0} (text_of : T → List ℕ) (all : List T) → AreApart text_of all → (value : Option (List ℕ)) (v w : T) → value ≡ Some (text_of v) → value ≡ Some (text_of w) → v ≡ w
one_value text_of all apart value v w h k = texts_tell text_of all v w apart (one_text value (text_of v) (text_of w) h k)

one_or_none : {T : Type 0} (text_of : T → List ℕ) (all : List T) → AreApart text_of all → (value : Option (List ℕ)) (v w : Option T) → value ≡ option_map text_of v → value ≡ option_map text_of w → v ≡ w
one_or_none text_of all apart value None None h k = refl
one_or_none text_of all apart value None (Some w) h k = absurd (cc (h, k))
one_or_none text_of all apart value (Some v) None h k = absurd (cc (h, k))
one_or_none text_of all apart value (Some v) (Some w) h k = ap (λ v. Some v) (one_value text_of all apart value v w h k)

one_date : (text : Option (List ℕ)) (v w : Option Value) → IsValueOf text v → IsValueOf text w → v ≡ w
one_date None None None h k = refl
one_date None None (Some w) h k = absurd k
one_date None (Some v) w h k = absurd h
one_date (Some text) None w h k = absurd h
one_date (Some text) (Some v) None h k = absurd k
one_date (Some text) (Some v) (Some w) h k = ap Some (valuing.one_value text v w h k)

-- ---- the end of a link

-- not both of a pair are there
not_both : (attrs : List Attribute) (a b s t : List ℕ) → (not (is_absent (value_of a attrs)) && not (is_absent (value_of b attrs))) ≡ false → value_of a attrs ≡ Some s → value_of b attrs ≡ Some t → ⊥
not_both attrs a b s t c h k =
    let both = ap (λ (p : Option (List ℕ) × Option (List ℕ)). not (is_absent p.0) && not (is_absent p.1)) (λ i. (h i, k i)) in
    absurd (cc (sym c ∙ both))

one_reference : (e f : Reference) → e.asked ≡ f.asked → e.name ≡ f.name → e ≡ f
one_reference e f h k = λ i. record { asked = h i; name = k i }

one_end : (attrs : List Attribute) (a b : List ℕ) (e f : Reference) → (not (is_absent (value_of a attrs)) && not (is_absent (value_of b attrs))) ≡ false → EndOf attrs a b e → EndOf attrs a b f → e ≡ f
one_end attrs a b e f c (inl h) (inl k) = one_reference e f (h.0 ∙ sym k.0) (one_text (value_of a attrs) e.name f.name h.1 k.1)
one_end attrs a b e f c (inl h) (inr k) = absurd (not_both attrs a b e.name f.name c h.1 k.1)
one_end attrs a b e f c (inr h) (inl k) = absurd (not_both attrs a b f.name e.name c k.1 h.1)
one_end attrs a b e f c (inr h) (inr k) = one_reference e f (h.0 ∙ sym k.0) (one_text (value_of b attrs) e.name f.name h.1 k.1)

-- ---- tags

or_false : (x y : _) → (x || y) ≡ false → (x ≡ false) × (y ≡ false)
or_false true y h = absurd (cc h)
or_false false y h = (refl, h)

false_of : (x : _) → (x ≡ true → ⊥) → x ≡ false
false_of true h = absurd (h refl)
false_of false h = refl

-- of neither pair of a TLINK that is sound both are there
tlink_pairs : (t : PlainTag) → BreaksNoTagRule t → t.name ≡ codes "TLINK" →
    ((not (is_absent (value_of (codes "eventInstanceID") t.attrs)) && not (is_absent (value_of (codes "timeID") t.attrs))) ≡ false)
    × ((not (is_absent (value_of (codes "relatedToEventInstance") t.attrs)) && not (is_absent (value_of (codes "relatedToTime") t.attrs))) ≡ false)
tlink_pairs t sound e =
    let rows = ap rows_at e ∙ rows_known tag.Tlink in
    let none : list_any (is_conflict t.attrs) (attribute_rows tag.Tlink) ≡ false = subst (λ rs. list_any (is_conflict t.attrs) rs ≡ false) rows (false_of _ (sound kinds.Conflict)) in
    let first = or_false _ _ none in
    (first.0, (or_false _ _ first.1).0)

same_content : (t : PlainTag) (c d : Content) → BreaksNoTagRule t → t.name ≡ tag_name (kind_of c) → t.name ≡ tag_name (kind_of d) → HasFields t.attrs c → HasFields t.attrs d → c ≡ d
same_content t (event c) (event d) sound n m h k = λ i. event (record {
  eid = one_text _ c.eid d.eid h.0 k.0 i;
  class = one_value listed.class_text listed.all_classes classes _ c.class d.class h.1 k.1 i;
})
same_content t (instance c) (instance d) sound n m h k = λ i. instance (record {
  eiid = one_text _ c.eiid d.eiid h.0 k.0 i;
  event = one_text _ c.event d.event h.1 k.1 i;
  signal = (sym h.2 ∙ k.2) i;
  tense = one_or_none listed.tense_text listed.all_tenses tenses _ c.tense d.tense h.3 k.3 i;
  aspect = one_or_none listed.aspect_text listed.all_aspects aspects _ c.aspect d.aspect h.4 k.4 i;
  pos = one_or_none listed.pos_text listed.all_pos parts _ c.pos d.pos h.5 k.5 i;
  polarity = one_or_none listed.polarity_text listed.all_polarities polarities _ c.polarity d.polarity h.6 k.6 i;
})
same_content t (timex c) (timex d) sound n m h k = λ i. timex (record {
  tid = one_text _ c.tid d.tid h.0 k.0 i;
  kind = one_value kind_text all_kinds timex_kinds _ c.kind d.kind h.1 k.1 i;
  value = one_date _ c.value d.value h.2 k.2 i;
  modifier = one_or_none modifier_text all_modifiers modifiers _ c.modifier d.modifier h.3 k.3 i;
  function = one_or_none listed.function_text listed.all_functions functions _ c.function d.function h.4 k.4 i;
  temporal = one_or_none truth_text all_truths truths _ c.temporal d.temporal h.5 k.5 i;
  anchor = (sym h.6 ∙ k.6) i;
  begin = (sym h.7 ∙ k.7) i;
  finish = (sym h.8 ∙ k.8) i;
})
same_content t (signal c) (signal d) sound n m h k = λ i. signal (record { sid = one_text _ c.sid d.sid h k i })
same_content t (tlink c) (tlink d) sound n m h k = let pairs = tlink_pairs t sound n in λ i. tlink (record {
  lid = (sym h.0 ∙ k.0) i;
  signal = (sym h.1 ∙ k.1) i;
  left = one_end t.attrs _ _ c.left d.left pairs.0 h.2 k.2 i;
  rel = one_value rel_text all_rels rels_apart _ c.rel d.rel h.3 k.3 i;
  right = one_end t.attrs _ _ c.right d.right pairs.1 h.4 k.4 i;
})
same_content t (alink c) (alink d) sound n m h k = λ i. alink (record {
  lid = (sym h.0 ∙ k.0) i;
  signal = (sym h.1 ∙ k.1) i;
  event = one_text _ c.event d.event h.2 k.2 i;
  related = one_text _ c.related d.related h.3 k.3 i;
  rel = one_value listed.aspect_rel_text listed.all_aspect_rels aspect_rels _ c.rel d.rel h.4 k.4 i;
})
same_content t (slink c) (slink d) sound n m h k = λ i. slink (record {
  lid = (sym h.0 ∙ k.0) i;
  signal = (sym h.1 ∙ k.1) i;
  event = (sym h.2 ∙ k.2) i;
  subordinated = one_text _ c.subordinated d.subordinated h.3 k.3 i;
  rel = one_value listed.sub_rel_text listed.all_sub_rels sub_rels _ c.rel d.rel h.4 k.4 i;
})
same_content t c d sound n m h k = absurd (names_differ (kind_of c) (kind_of d) refl (sym n ∙ m))

same_typed : (tag : PlainTag) (t u : PlainTyped) → BreaksNoTagRule tag → TypedAs tag t → TypedAs tag u → t ≡ u
same_typed tag t u sound h k = λ i. record {
  place = (h.place ∙ sym k.place) i;
  content = same_content tag t.content u.content sound h.name k.name h.fields k.fields i;
}

same_tags : (tags : List PlainTag) (typed others : List PlainTyped) → All BreaksNoTagRule tags → AllZip TypedAs tags typed → AllZip TypedAs tags others → typed ≡ others
same_tags [] [] [] sound h k = refl
same_tags [] [] (u ∷ others) sound h k = absurd k
same_tags [] (t ∷ typed) others sound h k = absurd h
same_tags (tag ∷ tags) [] others sound h k = absurd h
same_tags (tag ∷ tags) (t ∷ typed) [] sound h k = absurd k
same_tags (tag ∷ tags) (t ∷ typed) (u ∷ others) sound h k = λ i. same_typed tag t u (All-head BreaksNoTagRule tag tags sound) h.0 k.0 i ∷ same_tags tags typed others (All-tail BreaksNoTagRule tag tags sound) h.1 k.1 i

pub one_typed : (tags : List PlainTag) (typed others : List PlainTyped) → Types tags typed → Types tags others → typed ≡ others
one_typed tags typed others h k = same_tags (filter has_rows tags) typed others (All-filter has_rows BreaksNoTagRule tags h.sound) h.typed_tags k.typed_tags
