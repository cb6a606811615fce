-- What a tag breaks, by its attributes.
use Rattle.std.proofs.Common.{◌≡◌, ◌≤◌, ℕ, true, false, List, [], ◌∷◌, codes, refl, sym, ap, ◌∙◌, arith, rules, Option, Some, None}
use Rattle.std.specs.List.{list_any}
use Rattle.faults.specs.declared.kind.FaultKind.TheVariants as kinds
use Rattle.faults.specs.Kinds.{number_of}
use Rattle.faults.proofs.First.{fault_of_one}
use Rattle.named.specs.Texts.{AreApart, named_of}
use Rattle.timex_value.proofs.Valuing as valuing
use Rattle.tml_span.specs.Units.{Attribute}
use Rattle.tml_tree.specs.declared.tag_name.TagName.{TagName}
use Rattle.tml_tree.specs.declared.tag_name.TagName.TheVariants as tag
use Rattle.tml_tree.specs.TagNames.{text_of, all_tags}
use Rattle.tml_tree.specs.Walking.{PlainTag}
use Rattle.tml_types.specs.declared.walk.TypeFault.{TypeFault}
use Rattle.tml_types.specs.declared.walk.TypeFault.TheVariants as faults
use Rattle.tml_types.specs.declared.typed.TagKind.TheVariants as kind
use Rattle.tml_types.specs.Content.{Content, PlainTyped, event, instance, timex, signal, tlink, alink, slink}
use Rattle.tml_types.specs.References.{kind_of, tag_name}
use Rattle.tml_types.specs.Rules.{BreaksTagRule, BreaksAfter, IsNoDate, BreaksNoTagRule, is_bad, is_conflict, is_missing, is_repeated}
use Rattle.tml_types.specs.Table.{rows_at, attribute_rows}
use Rattle.tml_types.specs.Typing.{HasFields, IsValueOf, TypedAs}
use Rattle.tml_types.specs.Values.{value_of}
use Rattle.tml_types.specs.Walking.{ReadsTag, RefusesTag, tag_at}
use Rattle.tml_types.proofs.KindNames.{names_differ}
use Rattle.tml_types.specs.Whole.{TagFaultAt, HasTagFault, place_of}

pub known : AreApart text_of all_tags
known = search rules

-- the rows of the tag that a text names
pub rows_named : (text : List ℕ) (o : Option TagName) → named_of text_of all_tags text ≡ o → rows_at text ≡ (elim o [ None ↦ [] | Some t ↦ attribute_rows t ])
unfolding rows_at
rows_named text o e = ap (λ (o : Option TagName). elim o [ None ↦ [] | Some t ↦ attribute_rows t ]) e

-- the rows of a known tag
pub rows_known : (name : TagName) → rows_at (text_of name) ≡ attribute_rows name
rows_known name = rows_named (text_of name) (Some name) (known name)

-- ---- the first rule that is broken

module _ (name : TagName) (attrs : List Attribute) (place : ℕ) where
  at : PlainTag
  at = tag_at place name attrs

  missing_is : {b : _} → list_any (is_missing attrs) (attribute_rows name) ≡ b → list_any (is_missing attrs) (rows_at (text_of name)) ≡ b
  missing_is h = rw (rows_known name) h

  bad_is : {b : _} → list_any (is_bad attrs) (attribute_rows name) ≡ b → list_any (is_bad attrs) (rows_at (text_of name)) ≡ b
  bad_is h = rw (rows_known name) h

  conflict_is : {b : _} → list_any (is_conflict attrs) (attribute_rows name) ≡ b → list_any (is_conflict attrs) (rows_at (text_of name)) ≡ b
  conflict_is h = rw (rows_known name) h

  pub repeated_fault : is_repeated attrs ≡ true → TagFaultAt (tag_at place name attrs ∷ []) place kinds.RepeatedAttribute
  repeated_fault h = fault_of_one BreaksAfter number_of place_of (tag_at place name attrs) kinds.RepeatedAttribute h (λ other. elim other as (λ k. BreaksTagRule k (tag_at place name attrs) → 9 ≤ number_of k) [
    | kinds.RepeatedAttribute ↦ λ b. omega arith
    | kinds.MissingAttribute ↦ λ b. omega arith
    | kinds.BadValue ↦ λ b. omega arith
    | kinds.Conflict ↦ λ b. omega arith
    | kinds.BadDate ↦ λ b. omega arith
    | _ ↦ λ b. absurd b
  ])

  missing_fault : is_repeated attrs ≡ false → list_any (is_missing attrs) (attribute_rows name) ≡ true → TagFaultAt (tag_at place name attrs ∷ []) place kinds.MissingAttribute
  missing_fault r m = fault_of_one BreaksAfter number_of place_of (tag_at place name attrs) kinds.MissingAttribute (missing_is m) (λ other. elim other as (λ k. BreaksTagRule k (tag_at place name attrs) → 10 ≤ number_of k) [
    | kinds.RepeatedAttribute ↦ λ b. absurd (cc (r, b))
    | kinds.MissingAttribute ↦ λ b. omega arith
    | kinds.BadValue ↦ λ b. omega arith
    | kinds.Conflict ↦ λ b. omega arith
    | kinds.BadDate ↦ λ b. omega arith
    | _ ↦ λ b. absurd b
  ])

  bad_fault : is_repeated attrs ≡ false → list_any (is_missing attrs) (attribute_rows name) ≡ false → list_any (is_bad attrs) (attribute_rows name) ≡ true → TagFaultAt (tag_at place name attrs ∷ []) place kinds.BadValue
  bad_fault r m h = let none = missing_is m in fault_of_one BreaksAfter number_of place_of (tag_at place name attrs) kinds.BadValue (bad_is h) (λ other. elim other as (λ k. BreaksTagRule k (tag_at place name attrs) → 11 ≤ number_of k) [
    | kinds.RepeatedAttribute ↦ λ b. absurd (cc (r, b))
    | kinds.MissingAttribute ↦ λ b. absurd (cc (none, b))
    | kinds.BadValue ↦ λ b. omega arith
    | kinds.Conflict ↦ λ b. omega arith
    | kinds.BadDate ↦ λ b. omega arith
    | _ ↦ λ b. absurd b
  ])

  conflict_fault : is_repeated attrs ≡ false → list_any (is_missing attrs) (attribute_rows name) ≡ false → list_any (is_bad attrs) (attribute_rows name) ≡ false → list_any (is_conflict attrs) (attribute_rows name) ≡ true
      → TagFaultAt (tag_at place name attrs ∷ []) place kinds.Conflict
  conflict_fault r m g h = let none = missing_is m in let good = bad_is g in fault_of_one BreaksAfter number_of place_of (tag_at place name attrs) kinds.Conflict (conflict_is h) (λ other. elim other as (λ k. BreaksTagRule k (tag_at place name attrs) → 12 ≤ number_of k) [
    | kinds.RepeatedAttribute ↦ λ b. absurd (cc (r, b))
    | kinds.MissingAttribute ↦ λ b. absurd (cc (none, b))
    | kinds.BadValue ↦ λ b. absurd (cc (good, b))
    | kinds.Conflict ↦ λ b. omega arith
    | kinds.BadDate ↦ λ b. omega arith
    | _ ↦ λ b. absurd b
  ])

  date_fault : is_repeated attrs ≡ false → list_any (is_missing attrs) (attribute_rows name) ≡ false → list_any (is_bad attrs) (attribute_rows name) ≡ false → list_any (is_conflict attrs) (attribute_rows name) ≡ false
      → name ≡ tag.Timex3 → IsNoDate (value_of (codes "value") attrs) → TagFaultAt (tag_at place name attrs ∷ []) place kinds.BadDate
  date_fault r m g c n d = let none = missing_is m in let good = bad_is g in let one = conflict_is c in fault_of_one BreaksAfter number_of place_of (tag_at place name attrs) kinds.BadDate (ap text_of n, d) (λ other. elim other as (λ k. BreaksTagRule k (tag_at place name attrs) → 13 ≤ number_of k) [
    | kinds.RepeatedAttribute ↦ λ b. absurd (cc (r, b))
    | kinds.MissingAttribute ↦ λ b. absurd (cc (none, b))
    | kinds.BadValue ↦ λ b. absurd (cc (good, b))
    | kinds.Conflict ↦ λ b. absurd (cc (one, b))
    | kinds.BadDate ↦ λ b. omega arith
    | _ ↦ λ b. absurd b
  ])

  pub refused : (fault : TypeFault) → is_repeated attrs ≡ false → RefusesTag name attrs place fault → HasTagFault (tag_at place name attrs ∷ []) fault
  refused (faults.RepeatedAttribute p) r h = absurd h
  refused (faults.MissingAttribute p) r h = rw (h.0) (missing_fault r h.1)
  refused (faults.BadValue p) r h = rw (h.0) (bad_fault r h.1 h.2)
  refused (faults.Conflict p) r h = rw (h.0) (conflict_fault r h.1 h.2 h.3)
  refused (faults.BadDate p) r h = rw (h.0) (date_fault r h.1 h.2 h.3 h.4 h.5)
  refused faults.Memory r h = absurd h

  -- ---- none is

  -- a value that a time has is no bad date
  dated : (text : Option (List ℕ)) (v : _) → IsValueOf text v → IsNoDate text → ⊥
  dated None v h d = d
  dated (Some text) None h d = h
  dated (Some text) (Some v) h d = valuing.value_or_bad text v h d

  pub sound_by : is_repeated attrs ≡ false → list_any (is_missing attrs) (attribute_rows name) ≡ false → list_any (is_bad attrs) (attribute_rows name) ≡ false → list_any (is_conflict attrs) (attribute_rows name) ≡ false
      → (BreaksTagRule kinds.BadDate (tag_at place name attrs) → ⊥) → BreaksNoTagRule (tag_at place name attrs)
  sound_by r m g c d = let none = missing_is m in let good = bad_is g in let one = conflict_is c in λ broken. elim broken as (λ k. BreaksTagRule k (tag_at place name attrs) → ⊥) [
    | kinds.RepeatedAttribute ↦ λ b. absurd (cc (r, b))
    | kinds.MissingAttribute ↦ λ b. absurd (cc (none, b))
    | kinds.BadValue ↦ λ b. absurd (cc (good, b))
    | kinds.Conflict ↦ λ b. absurd (cc (one, b))
    | kinds.BadDate ↦ d
    | _ ↦ λ b. absurd b
  ]

  -- where the tag is a TIMEX3 its value is no bad date
  no_bad_date : (content : Content) → text_of name ≡ tag_name (kind_of content) → HasFields attrs content → text_of name ≡ codes "TIMEX3" → IsNoDate (value_of (codes "value") attrs) → ⊥
  no_bad_date (event e) n f t d = absurd (names_differ kind.Event kind.Timex refl (sym n ∙ t))
  no_bad_date (instance i) n f t d = absurd (names_differ kind.Instance kind.Timex refl (sym n ∙ t))
  no_bad_date (timex x) n f t d = dated (value_of (codes "value") attrs) x.value f.2 d
  no_bad_date (signal s) n f t d = absurd (names_differ kind.Signal kind.Timex refl (sym n ∙ t))
  no_bad_date (tlink l) n f t d = absurd (names_differ kind.Tlink kind.Timex refl (sym n ∙ t))
  no_bad_date (alink l) n f t d = absurd (names_differ kind.Alink kind.Timex refl (sym n ∙ t))
  no_bad_date (slink l) n f t d = absurd (names_differ kind.Slink kind.Timex refl (sym n ∙ t))

  pub read_sound : (t : PlainTyped) → is_repeated attrs ≡ false → ReadsTag name attrs place t → BreaksNoTagRule (tag_at place name attrs)
  read_sound t r h = sound_by r h.none_missing h.none_bad h.no_conflict (λ b. no_bad_date t.content h.kind h.fields b.0 b.1)

  pub read_typed : (t : PlainTyped) → ReadsTag name attrs place t → TypedAs (tag_at place name attrs) t
  read_typed t h = record { place = h.place_is; name = h.kind; fields = h.fields }
