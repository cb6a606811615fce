-- Attributes whose values are quoted break the rules that they broke, and have the fields that they had.
use Rattle.std.proofs.Common.{◌≡◌, ◌&&◌, ◌||◌, not, ℕ, Bool, true, false, List, [], ◌∷◌, codes, refl, sym, ap, subst, ◌∙◌, inl, inr, Option}
use Rattle.std.specs.List.{AllByRecursion, list_any}
use Rattle.std.proofs.lemmas.Bool.{false_from_ne_true, or_parts}
use Rattle.named.proofs.Lists.{any_agree}
use Rattle.faults.specs.declared.kind.FaultKind.{FaultKind}
use Rattle.faults.specs.declared.kind.FaultKind.TheVariants as kinds
use Rattle.tml_span.specs.Units.{Attribute}
use Rattle.tml_tree.specs.declared.tag_name.TagName.{TagName}
use Rattle.tml_tree.specs.declared.tag_name.TagName.TheVariants as tag
use Rattle.tml_tree.specs.Walking.{PlainTag}
use Rattle.tml_types.specs.declared.typed.TagKind.{TagKind}
use Rattle.tml_types.specs.declared.typed.TagKind.TheVariants as kind
use Rattle.tml_types.specs.Content.{Content, PlainTyped, Reference, event, instance, timex, signal, tlink, alink, slink}
use Rattle.tml_types.specs.References.{kind_of, tag_name}
use Rattle.tml_types.specs.Rules.{BreaksTagRule, IsNoDate, BreaksNoTagRule, is_absent, is_bad, is_conflict, is_missing, is_unfit}
use Rattle.tml_types.specs.Table.{Row, ValueForm, one_of, optional, required, rows_at, attribute_rows}
use Rattle.tml_types.specs.Typing.{EndOf, HasFields, IsValueOf, TypedAs}
use Rattle.tml_types.specs.Values.{is_of_form, value_of}
use Rattle.tml_types.proofs.OneRule.{rows_known}
use Rattle.tml_canon.proofs.Forms.{absent_quoted, fit_unchanged, is_any, unfit_quoted}
use Rattle.tml_canon.proofs.Named.{AreQuoted}
use Rattle.tml_canon.proofs.TimeValues.{no_date_before, time_quoted}

-- the tag of a kind
abbrev tag_of : TagKind → TagName
tag_of kind.Event = tag.Event
tag_of kind.Instance = tag.MakeInstance
tag_of kind.Timex = tag.Timex3
tag_of kind.Signal = tag.Signal
tag_of kind.Tlink = tag.Tlink
tag_of kind.Alink = tag.Alink
tag_of kind.Slink = tag.Slink

-- its rows
rows_of_kind : (k : TagKind) → rows_at (tag_name k) ≡ attribute_rows (tag_of k)
rows_of_kind kind.Event = rows_known tag.Event
rows_of_kind kind.Instance = rows_known tag.MakeInstance
rows_of_kind kind.Timex = rows_known tag.Timex3
rows_of_kind kind.Signal = rows_known tag.Signal
rows_of_kind kind.Tlink = rows_known tag.Tlink
rows_of_kind kind.Alink = rows_known tag.Alink
rows_of_kind kind.Slink = rows_known tag.Slink

-- the attribute of this name has the value that it had, where any text will not do
abbrev IsKept : List Attribute → List Attribute → List ℕ → ValueForm → Type 0
IsKept attrs others name f = is_any f ≡ false → value_of name others ≡ value_of name attrs

-- the same of those of a row
abbrev IsRowKept : List Attribute → List Attribute → Row → Type 0
IsRowKept attrs others (required name f) = IsKept attrs others name f
IsRowKept attrs others (optional name f) = IsKept attrs others name f
IsRowKept attrs others (one_of name other f) = IsKept attrs others name f × IsKept attrs others other f

module _ (attrs others : List Attribute) (q : AreQuoted attrs others) where
  -- ---- rules

  -- a value is absent where it was
  absent_same : (name : List ℕ) → is_absent (value_of name others) ≡ is_absent (value_of name attrs)
  absent_same name = ap is_absent (q.values name) ∙ absent_quoted (value_of name attrs)

  -- and of its form where it was
  unfit_same : (f : ValueForm) (name : List ℕ) → is_unfit (is_of_form f) (value_of name others) ≡ is_unfit (is_of_form f) (value_of name attrs)
  unfit_same f name = ap (is_unfit (is_of_form f)) (q.values name) ∙ unfit_quoted f (value_of name attrs)

  -- what a row wants is absent where it was
  missing_same : (row : Row) → is_missing others row ≡ is_missing attrs row
  missing_same (required name f) = absent_same name
  missing_same (optional name f) = refl
  missing_same (one_of name other f) = λ i. absent_same name i && absent_same other i

  -- and of its form where it was
  bad_same : (row : Row) → is_bad others row ≡ is_bad attrs row
  bad_same (required name f) = unfit_same f name
  bad_same (optional name f) = unfit_same f name
  bad_same (one_of name other f) = λ i. unfit_same f name i || unfit_same f other i

  -- and both of a pair are there where both were
  conflict_same : (row : Row) → is_conflict others row ≡ is_conflict attrs row
  conflict_same (required name f) = refl
  conflict_same (optional name f) = refl
  conflict_same (one_of name other f) = λ i. not (absent_same name i) && not (absent_same other i)

  -- ---- fields

  -- a value of a form stays what it was
  one_kept : (name : List ℕ) (f : ValueForm) → is_unfit (is_of_form f) (value_of name attrs) ≡ false → IsKept attrs others name f
  one_kept name f h = λ n. q.values name ∙ fit_unchanged f (value_of name attrs) n h

  -- so do those of a row
  row_kept : (row : Row) → is_bad attrs row ≡ false → IsRowKept attrs others row
  row_kept (required name f) h = one_kept name f h
  row_kept (optional name f) h = one_kept name f h
  row_kept (one_of name other f) h =
      let parts = or_parts (is_unfit (is_of_form f) (value_of name attrs)) (is_unfit (is_of_form f) (value_of other attrs)) h in
      (one_kept name f parts.0, one_kept other f parts.1)

  -- and those of all rows
  rows_kept : (rows : List Row) → list_any (is_bad attrs) rows ≡ false → AllByRecursion (IsRowKept attrs others) rows
  rows_kept [] h = tt
  rows_kept (row ∷ rows) h = let parts = or_parts (is_bad attrs row) (list_any (is_bad attrs) rows) h in (row_kept row parts.0, rows_kept rows parts.1)

  -- the end of a link stays what it was
  end_kept : (a b : List ℕ) (r : Reference) → value_of a others ≡ value_of a attrs → value_of b others ≡ value_of b attrs → EndOf attrs a b r → EndOf others a b r
  end_kept a b r h k (inl e) = inl (e.0, h ∙ e.1)
  end_kept a b r h k (inr e) = inr (e.0, k ∙ e.1)

  -- the fields are what they were
  fields_kept : (c : Content) → AllByRecursion (IsRowKept attrs others) (attribute_rows (tag_of (kind_of c))) → HasFields attrs c → HasFields others c
  fields_kept (event e) (eid, (class, _)) h = (eid refl ∙ h.0, class refl ∙ h.1)
  fields_kept (instance i) (eiid, (event_id, (tense, (aspect, (pos, (polarity, (signal_id, _))))))) h =
      (eiid refl ∙ h.0, event_id refl ∙ h.1, signal_id refl ∙ h.2, tense refl ∙ h.3, aspect refl ∙ h.4, pos refl ∙ h.5, polarity refl ∙ h.6)
  fields_kept (timex t) (tid, (type, (value, (modifier, (function, (temporal, (anchor, (begin, (finish, _))))))))) h = (
    tid refl ∙ h.0,
    type refl ∙ h.1,
    subst (λ (o : Option (List ℕ)). IsValueOf o t.value) (sym (q.values (codes "value"))) (time_quoted (value_of (codes "value") attrs) t.value h.2),
    modifier refl ∙ h.3,
    function refl ∙ h.4,
    temporal refl ∙ h.5,
    anchor refl ∙ h.6,
    begin refl ∙ h.7,
    finish refl ∙ h.8,
  )
  fields_kept (signal s) (sid, _) h = sid refl ∙ h
  fields_kept (tlink l) (rel, (left, (right, (lid, (signal_id, _))))) h = (
    lid refl ∙ h.0,
    signal_id refl ∙ h.1,
    end_kept (codes "eventInstanceID") (codes "timeID") l.left (left.0 refl) (left.1 refl) h.2,
    rel refl ∙ h.3,
    end_kept (codes "relatedToEventInstance") (codes "relatedToTime") l.right (right.0 refl) (right.1 refl) h.4,
  )
  fields_kept (alink l) (first, (related, (rel, (lid, (signal_id, _))))) h =
      (lid refl ∙ h.0, signal_id refl ∙ h.1, first refl ∙ h.2, related refl ∙ h.3, rel refl ∙ h.4)
  fields_kept (slink l) (subordinated, (rel, (first, (lid, (signal_id, _))))) h =
      (lid refl ∙ h.0, signal_id refl ∙ h.1, first refl ∙ h.2, subordinated refl ∙ h.3, rel refl ∙ h.4)

-- ---- tags

-- another tag has the name of a tag, and its attributes have the values of those of that tag, quoted
pub record IsQuoted (t other : PlainTag) : Type 0 where
  pub name : other.name ≡ t.name
  pub attrs : AreQuoted t.attrs other.attrs

-- a row of the one passes a test where a row of the other passes the like
rows_pass : (t other : PlainTag) → IsQuoted t other → (p q : Row → Bool) → ((row : Row) → p row ≡ q row) → list_any p (rows_at other.name) ≡ true → list_any q (rows_at t.name) ≡ true
rows_pass t other h p q same k = ap (λ (name : List ℕ). list_any q (rows_at name)) (sym h.name) ∙ sym (any_agree p q same (rows_at other.name)) ∙ k

-- so the first breaks the rules that the other breaks
breaks_before : (t other : PlainTag) → IsQuoted t other → (rule : FaultKind) → BreaksTagRule rule other → BreaksTagRule rule t
breaks_before t other h rule b = elim rule as (λ r. BreaksTagRule r other → BreaksTagRule r t) [
  | kinds.RepeatedAttribute ↦ λ k. sym h.attrs.repeated ∙ k
  | kinds.MissingAttribute ↦ rows_pass t other h (is_missing other.attrs) (is_missing t.attrs) (missing_same t.attrs other.attrs h.attrs)
  | kinds.BadValue ↦ rows_pass t other h (is_bad other.attrs) (is_bad t.attrs) (bad_same t.attrs other.attrs h.attrs)
  | kinds.Conflict ↦ rows_pass t other h (is_conflict other.attrs) (is_conflict t.attrs) (conflict_same t.attrs other.attrs h.attrs)
  | kinds.BadDate ↦ λ k. (sym h.name ∙ k.0, no_date_before (value_of (codes "value") t.attrs) (subst IsNoDate (h.attrs.values (codes "value")) k.1))
  | _ ↦ λ k. k
] b

-- and the other breaks none where the first breaks none
pub sound_quoted : (t other : PlainTag) → IsQuoted t other → BreaksNoTagRule t → BreaksNoTagRule other
sound_quoted t other h sound = λ rule b. sound rule (breaks_before t other h rule b)

-- and says what the first says, where that breaks none
pub typed_quoted : (t other : PlainTag) (x : PlainTyped) → IsQuoted t other → BreaksNoTagRule t → TypedAs t x → TypedAs other (record { place = other.place; content = x.content })
typed_quoted t other x h sound typed =
    let rows = attribute_rows (tag_of (kind_of x.content)) in
    let same : rows_at t.name ≡ rows = ap rows_at typed.name ∙ rows_of_kind (kind_of x.content) in
    let none : list_any (is_bad t.attrs) rows ≡ false = subst (λ (rs : List Row). list_any (is_bad t.attrs) rs ≡ false) same (false_from_ne_true _ (sound kinds.BadValue)) in
    record {
      place = refl;
      name = h.name ∙ typed.name;
      fields = fields_kept t.attrs other.attrs h.attrs x.content (rows_kept t.attrs other.attrs h.attrs rows none) typed.fields;
    }
