-- Tags have typed tags or a fault.
use mathlib.Core.Bool.{Bool-discrete}
use mathlib.Core.List.{List-discrete}
use mathlib.Core.Logic.Dec
use native.Mathlib.Decide.{ℕ_discrete}
use Rattle.std.proofs.Common.{◌≡◌, ◌⊎◌, inl, inr, ℕ, Bool, true, false, ◌&&◌, List, [], ◌∷◌, codes, refl, sym, ap, subst, ◌∙◌, Option, Some, None, option_map, All}
use Rattle.std.specs.List.{AllByRecursion, filter, list_any}
use Rattle.std.specs.Option.{is_some}
use Rattle.std.proofs.lemmas.Bool.{false_from_ne_true, not-false, or_parts}
use Rattle.std.proofs.lemmas.List.Elements.{All-filter, filter_passes}
use Rattle.faults.specs.declared.kind.FaultKind.{FaultKind}
use Rattle.faults.specs.declared.kind.FaultKind.TheVariants as kinds
use Rattle.faults.specs.Kinds.{number_of, all_kinds}
use Rattle.faults.proofs.First.{all_of_none}
use Rattle.faults.proofs.FirstOrNone.{first_or_none}
use Rattle.faults.proofs.Numbered.{every_kind}
use Rattle.named.specs.Texts.{named_of}
use Rattle.named.proofs.Pairs.{partners}
use Rattle.named.proofs.Tables.{found_has}
use Rattle.net_core.specs.Rels.{rel_text, all_rels}
use Rattle.timex_value.specs.Kinds.{kind_text, all_kinds as all_timex_kinds, modifier_text, all_modifiers}
use Rattle.timex_value.specs.declared.value.Value.{Value}
use Rattle.timex_value.proofs.EveryText.{every_text}
use Rattle.timex_value.proofs.Valuing.{value_or_bad}
use Rattle.tml_span.specs.Units.{Attribute}
use Rattle.tml_tree.specs.declared.tag_name.TagName.{TagName}
use Rattle.tml_tree.specs.declared.tag_name.TagName.TheVariants as tag
use Rattle.tml_tree.specs.TagNames.{text_of, all_tags}
use Rattle.tml_tree.specs.Walking.{PlainTag}
use Rattle.tml_types.specs.declared.typed.TagKind.TheVariants as kind
use Rattle.tml_types.specs.Answers.{TypedOrFault}
use Rattle.tml_types.specs.Content.{Content, PlainTyped, Reference, event, instance, timex, signal, tlink, alink, slink}
use Rattle.tml_types.specs.Listed as listed
use Rattle.tml_types.specs.References.{kind_of, tag_name}
use Rattle.tml_types.specs.Rules.{BreaksTagRule, BreaksAfter, IsNoDate, BreaksNoTagRule, is_absent, is_bad, is_conflict, is_missing, is_repeated, is_unfit}
use Rattle.tml_types.specs.Table.{Row, one_of, optional, required, rows_at, attribute_rows}
use Rattle.tml_types.specs.Typing.{EndOf, HasFields, IsValueOf, TypedAs}
use Rattle.tml_types.specs.Values.{is_named, is_of_form, truth_text, all_truths, value_of}
use Rattle.tml_types.specs.Whole.{AreTyped, has_rows, place_of}
use Rattle.tml_types.proofs.OneRule.{rows_named}
use Rattle.tml_types.proofs.OneTag.{any_row}

-- ---- which rules a tag breaks

no_date_or_not : (text : Option (List ℕ)) → Dec (IsNoDate text)
no_date_or_not None = no (λ h. h)
no_date_or_not (Some text) = elim (every_text text) [
  | inl value ↦ no (value_or_bad text value.0 value.1)
  | inr bad ↦ yes bad
]

broken_or_not : (rule : FaultKind) (tag : PlainTag) → Dec (BreaksTagRule rule tag)
broken_or_not kinds.RepeatedAttribute tag = Bool-discrete (is_repeated tag.attrs) true
broken_or_not kinds.MissingAttribute tag = Bool-discrete (list_any (is_missing tag.attrs) (rows_at tag.name)) true
broken_or_not kinds.BadValue tag = Bool-discrete (list_any (is_bad tag.attrs) (rows_at tag.name)) true
broken_or_not kinds.Conflict tag = Bool-discrete (list_any (is_conflict tag.attrs) (rows_at tag.name)) true
broken_or_not kinds.BadDate tag = Dec.and (List-discrete ℕ_discrete tag.name (codes "TIMEX3")) (no_date_or_not (value_of (codes "value") tag.attrs))
broken_or_not other tag = no (λ b. b)

-- ---- the values of a tag that breaks no rule

-- what a row of the table says of the values of such a tag
abbrev Given : List Attribute → Row → Type 0
Given attrs (required name form) = (text : List ℕ) × (value_of name attrs ≡ Some text) × (is_of_form form text ≡ true)
Given attrs (optional name form) = is_unfit (is_of_form form) (value_of name attrs) ≡ false
Given attrs (one_of name other form) = (end : Reference) × EndOf attrs name other end

-- a value that has to be there
present : (test : List ℕ → Bool) (value : Option (List ℕ)) → is_absent value ≡ false → is_unfit test value ≡ false → (text : List ℕ) × (value ≡ Some text) × (test text ≡ true)
present test None m b = absurd cc
present test (Some text) m b = (text, refl, not-false (test text) b)

-- one of two that has to be there
one_present : (x y : Option (List ℕ)) → (is_absent x && is_absent y) ≡ false → (end : Reference) × (((end.asked ≡ kind.Instance) × (x ≡ Some end.name)) ⊎ ((end.asked ≡ kind.Timex) × (y ≡ Some end.name)))
one_present (Some text) y m = (record { asked = kind.Instance; name = text }, inl (refl, refl))
one_present None (Some text) m = (record { asked = kind.Timex; name = text }, inr (refl, refl))
one_present None None m = absurd cc

given : (attrs : List Attribute) (row : Row) → is_missing attrs row ≡ false → is_bad attrs row ≡ false → Given attrs row
given attrs (required name form) m b = present (is_of_form form) (value_of name attrs) m b
given attrs (optional name form) m b = b
given attrs (one_of name other form) m b = one_present (value_of name attrs) (value_of other attrs) m

all_given : (attrs : List Attribute) (rows : List Row) → list_any (is_missing attrs) rows ≡ false → list_any (is_bad attrs) rows ≡ false → AllByRecursion (Given attrs) rows
all_given attrs [] m b = tt
all_given attrs (row ∷ rows) m b =
    let missing = or_parts (is_missing attrs row) (list_any (is_missing attrs) rows) m in
    let bad = or_parts (is_bad attrs row) (list_any (is_bad attrs) rows) b in
    (given attrs row missing.0 bad.0, all_given attrs rows missing.1 bad.1)

-- ---- the fields

module _ {T : Type 0} (name_of : T → List ℕ) (all : List T) where
  -- a text that some value has
  named : (text : List ℕ) (o : Option T) → named_of name_of all text ≡ o → is_some o ≡ true → (v : T) × (text ≡ name_of v)
  named text None e h = absurd cc
  named text (Some v) e h = (v, sym (found_has name_of all text v e))

  -- an attribute with such a text, which has to be there
  one_of_all : (value : Option (List ℕ)) → (text : List ℕ) × (value ≡ Some text) × (is_named name_of all text ≡ true) → (v : T) × (value ≡ Some (name_of v))
  one_of_all value (text, is, h) = let v = named text (named_of name_of all text) refl h in (v.0, is ∙ ap (λ (t : List ℕ). Some t) v.1)

  -- one that may be there
  one_or_none : (value : Option (List ℕ)) → is_unfit (is_named name_of all) value ≡ false → (v : Option T) × (value ≡ option_map name_of v)
  one_or_none None h = (None, refl)
  one_or_none (Some text) h = let v = named text (named_of name_of all text) refl (not-false _ h) in (Some v.0, ap (λ (t : List ℕ). Some t) v.1)

-- the value of a time, where its text is no bad date
dated : (text : Option (List ℕ)) → (IsNoDate text → ⊥) → (value : Option Value) × IsValueOf text value
dated None good = (None, tt)
dated (Some text) good = elim (every_text text) [
  | inl value ↦ (Some value.0, value.1)
  | inr bad ↦ absurd (good bad)
]

-- what a tag of this name says, where the name has rows
says : (name : TagName) (attrs : List Attribute) → any_row (attribute_rows name) ≡ true → AllByRecursion (Given attrs) (attribute_rows name) → (name ≡ tag.Timex3 → IsNoDate (value_of (codes "value") attrs) → ⊥)
    → (content : Content) × (text_of name ≡ tag_name (kind_of content)) × HasFields attrs content
says tag.Event attrs some (eid, (class, _)) good =
    let class = one_of_all listed.class_text listed.all_classes _ class in
    (event (record { eid = eid.0; class = class.0 }), refl, (eid.1, class.1))
says tag.MakeInstance attrs some (eiid, (of, (tense, (aspect, (pos, (polarity, _)))))) good =
    let tense = one_or_none listed.tense_text listed.all_tenses _ tense in
    let aspect = one_or_none listed.aspect_text listed.all_aspects _ aspect in
    let pos = one_or_none listed.pos_text listed.all_pos _ pos in
    let polarity = one_or_none listed.polarity_text listed.all_polarities _ polarity in (
      instance (record { eiid = eiid.0; event = of.0; signal = value_of (codes "signalID") attrs; tense = tense.0; aspect = aspect.0; pos = pos.0; polarity = polarity.0 }),
      refl,
      (eiid.1, of.1, refl, tense.1, aspect.1, pos.1, polarity.1),
    )
says tag.Timex3 attrs some (tid, (type, (_, (modifier, (function, (temporal, _)))))) good =
    let type = one_of_all kind_text all_timex_kinds _ type in
    let value = dated (value_of (codes "value") attrs) (good refl) in
    let modifier = one_or_none modifier_text all_modifiers _ modifier in
    let function = one_or_none listed.function_text listed.all_functions _ function in
    let temporal = one_or_none truth_text all_truths _ temporal in (
      timex (record {
        tid = tid.0;
        kind = type.0;
        value = value.0;
        modifier = modifier.0;
        function = function.0;
        temporal = temporal.0;
        anchor = value_of (codes "anchorTimeID") attrs;
        begin = value_of (codes "beginPoint") attrs;
        finish = value_of (codes "endPoint") attrs;
      }),
      refl,
      (tid.1, type.1, value.1, modifier.1, function.1, temporal.1, refl, refl, refl),
    )
says tag.Signal attrs some (sid, _) good = (signal (record { sid = sid.0 }), refl, sid.1)
says tag.Tlink attrs some (rel, (left, (right, _))) good =
    let rel = one_of_all rel_text all_rels _ rel in (
      tlink (record { lid = value_of (codes "lid") attrs; signal = value_of (codes "signalID") attrs; left = left.0; rel = rel.0; right = right.0 }),
      refl,
      (refl, refl, left.1, rel.1, right.1),
    )
says tag.Alink attrs some (of, (related, (rel, _))) good =
    let rel = one_of_all listed.aspect_rel_text listed.all_aspect_rels _ rel in (
      alink (record { lid = value_of (codes "lid") attrs; signal = value_of (codes "signalID") attrs; event = of.0; related = related.0; rel = rel.0 }),
      refl,
      (refl, refl, of.1, related.1, rel.1),
    )
says tag.Slink attrs some (subordinated, (rel, _)) good =
    let rel = one_of_all listed.sub_rel_text listed.all_sub_rels _ rel in (
      slink (record { lid = value_of (codes "lid") attrs; signal = value_of (codes "signalID") attrs; event = value_of (codes "eventInstanceID") attrs; subordinated = subordinated.0; rel = rel.0 }),
      refl,
      (refl, refl, refl, subordinated.1, rel.1),
    )
says other attrs some rows good = absurd cc

-- ---- tags

-- a tag that breaks no rule has a typed tag, where its name has rows
typed_one : (t : PlainTag) → BreaksNoTagRule t → has_rows t ≡ true → (typed : PlainTyped) × TypedAs t typed
typed_one t sound some = by_name (named_of text_of all_tags t.name) refl
  where
    rows_given : AllByRecursion (Given t.attrs) (rows_at t.name)
    rows_given = all_given t.attrs (rows_at t.name) (false_from_ne_true _ (sound kinds.MissingAttribute)) (false_from_ne_true _ (sound kinds.BadValue))

    by_name : (o : Option TagName) → named_of text_of all_tags t.name ≡ o → (typed : PlainTyped) × TypedAs t typed
    by_name None e = let none = ap any_row (rows_named t.name None e) in absurd (cc (none, some))
    by_name (Some name) e =
        let rows = rows_named t.name (Some name) e in
        let is : t.name ≡ text_of name = sym (found_has text_of all_tags t.name name e) in
        let content = says name t.attrs (sym (ap any_row rows) ∙ some) (subst (AllByRecursion (Given t.attrs)) rows rows_given) (λ k bad. sound kinds.BadDate (is ∙ ap text_of k, bad)) in
        (record { place = t.place; content = content.0 }, record { place = refl; name = is ∙ content.1; fields = content.2 })

typed_all : (tags : List PlainTag) → All BreaksNoTagRule tags → (typed : List PlainTyped) × AreTyped tags typed
typed_all tags sound = partners TypedAs (filter has_rows tags) (λ k d within. typed_one _ (All-filter has_rows BreaksNoTagRule tags sound k d within) (filter_passes has_rows tags k d within))

pub typed_or_fault : (tags : List PlainTag) → TypedOrFault tags
typed_or_fault tags = elim (first_or_none BreaksAfter number_of place_of (λ rule before. broken_or_not rule) all_kinds every_kind tags) [
  | inl fault ↦ inr fault
  | inr none ↦
      let sound = all_of_none BreaksTagRule tags none in
      let typed = typed_all tags sound in
      inl (typed.0, record { sound = sound; typed_tags = typed.1 })
]
