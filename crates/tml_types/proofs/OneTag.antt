-- One tag more, with its typed tag or without one.
use Rattle.std.proofs.Common.{◌≡◌, ℕ, Bool, true, false, cond, List, [], ◌∷◌, ◌++◌, codes, sym, ap, ◌∙◌, Some, None}
use Rattle.std.specs.List.{AllZip, list_any}
use Rattle.std.proofs.lemmas.List.{append-nil}
use Rattle.std.proofs.lemmas.List.Elements.{All-nil, All-cons}
use Rattle.named.proofs.Tables.{texts_tell}
use Rattle.tml_span.specs.Units.{Attribute}
use Rattle.tml_tree.specs.declared.tag_name.TagName.{TagName}
use Rattle.tml_tree.specs.declared.tag_name.TagName.TheVariants as tag
use Rattle.tml_tree.specs.TagNames.{text_of, all_tags}
use Rattle.tml_tree.specs.Walking.{PlainTag}
use Rattle.tml_types.specs.declared.typed.TagKind.{TagKind}
use Rattle.tml_types.specs.declared.typed.TagKind.TheVariants as kind
use Rattle.tml_types.specs.declared.typed.TypedTag.{TypedTag}
use Rattle.tml_types.specs.References.{kind_of, tag_name}
use Rattle.tml_types.specs.Content.{PlainTyped}
use Rattle.tml_types.specs.Places.{IsPlaceSmall}
use Rattle.tml_types.specs.Rules.{BreaksNoTagRule, is_bad, is_conflict, is_missing, is_repeated}
use Rattle.tml_types.specs.Table.{Row, rows_at, attribute_rows}
use Rattle.tml_types.specs.Typing.{TypedAs}
use Rattle.tml_types.specs.View.{typed_of}
use Rattle.tml_types.specs.Walking.{AddsTyped, ReadsTag, Yields, tag_at}
use Rattle.tml_types.specs.Whole.{AreTyped, has_rows}
use Rattle.tml_types.proofs.OneRule.{known, rows_known, sound_by, read_sound, read_typed}

-- there is a row
abbrev pub any_row : List Row → Bool
any_row rows = elim rows [ [] ↦ false | row ∷ more ↦ true ]

-- each kind of typed tag has rows in the table
kind_rows : (k : TagKind) → any_row (rows_at (tag_name k)) ≡ true
kind_rows kind.Event = ap any_row (rows_known tag.Event)
kind_rows kind.Instance = ap any_row (rows_known tag.MakeInstance)
kind_rows kind.Timex = ap any_row (rows_known tag.Timex3)
kind_rows kind.Signal = ap any_row (rows_known tag.Signal)
kind_rows kind.Tlink = ap any_row (rows_known tag.Tlink)
kind_rows kind.Alink = ap any_row (rows_known tag.Alink)
kind_rows kind.Slink = ap any_row (rows_known tag.Slink)

-- a tag is typed alone
typed_alone : (t : PlainTag) (typed : List PlainTyped) (b : Bool) → has_rows t ≡ b → AllZip TypedAs (cond b (t ∷ []) []) typed → AreTyped (t ∷ []) typed
typed_alone t typed b e h = rw e h

cons_nil : {A : Type 0} (x : A) (xs : List A) → x ∷ xs ≡ [] → ⊥
cons_nil x xs e = absurd cc

no_timex_row : (name : TagName) → attribute_rows name ≡ [] → text_of name ≡ codes "TIMEX3" → ⊥
no_timex_row name e n = cons_nil _ _ (sym (ap attribute_rows (texts_tell text_of all_tags name tag.Timex3 known n)) ∙ e)

module _ (name : TagName) (attrs : List Attribute) (place : ℕ) where
  -- a tag without rows has no typed tag
  pub yields_none : is_repeated attrs ≡ false → attribute_rows name ≡ [] → Yields (tag_at place name attrs) None
  yields_none r e =
      let sound = sound_by name attrs place r (ap (list_any (is_missing attrs)) e) (ap (list_any (is_bad attrs)) e) (ap (list_any (is_conflict attrs)) e) (λ b. no_timex_row name e b.0) in (
        record {
          sound = All-cons BreaksNoTagRule (tag_at place name attrs) [] sound (All-nil BreaksNoTagRule);
          typed_tags = typed_alone (tag_at place name attrs) [] false (ap any_row (rows_known name ∙ e)) tt;
        },
        All-nil IsPlaceSmall,
      )

  -- another has the one that is read
  pub yields_one : (t : TypedTag) → is_repeated attrs ≡ false → ReadsTag name attrs place (typed_of t) → Yields (tag_at place name attrs) (Some t)
  yields_one t r h = (
    record {
      sound = All-cons BreaksNoTagRule (tag_at place name attrs) [] (read_sound name attrs place (typed_of t) r h) (All-nil BreaksNoTagRule);
      typed_tags = typed_alone (tag_at place name attrs) (typed_of t ∷ []) true (ap (λ (n : List ℕ). any_row (rows_at n)) h.kind ∙ kind_rows (kind_of (typed_of t).content)) (read_typed name attrs place (typed_of t) h, tt);
    },
    All-cons IsPlaceSmall (typed_of t) [] h.small (All-nil IsPlaceSmall),
  )

-- what a tag yields is added
pub adds_one : (tag : PlainTag) (old new : List TypedTag) (t : TypedTag) → Yields tag (Some t) → new ≡ old ++ t ∷ [] → AddsTyped (tag ∷ []) old new
adds_one tag old new t h e = (t ∷ [], h.0, h.1, e)

pub adds_none : (tag : PlainTag) (old new : List TypedTag) → Yields tag None → new ≡ old → AddsTyped (tag ∷ []) old new
adds_none tag old new h e = ([], h.0, h.1, e ∙ sym (append-nil old))
