-- Serves the code: how the tags of a tree are typed, one after another: what the private contracts say.
use Rattle.std.specs.Prelude.{◌≡◌, ℕ, true, false, List, [], ◌∷◌, ◌++◌, map, codes, Option}
use Rattle.std.specs.Option.{option_to_list}
use Rattle.std.specs.List.{All, list_any}
use Rattle.tml_span.specs.Units.{Attribute}
use Rattle.tml_tree.specs.declared.tag_name.TagName.{TagName}
use Rattle.tml_tree.specs.declared.tag_name.TagName.TheVariants as tag
use Rattle.tml_tree.specs.TagNames.{text_of}
use Rattle.tml_tree.specs.Walking.{PlainTag}
use Rattle.tml_types.specs.declared.typed.TagKind.{TagKind}
use Rattle.tml_types.specs.declared.typed.TagKind.TheVariants as kind
use Rattle.tml_types.specs.declared.typed.TypedTag.{TypedTag}
use Rattle.tml_types.specs.declared.walk.TypeFault.{TypeFault}
use Rattle.tml_types.specs.declared.walk.TypeFault.TheVariants as faults
use Rattle.tml_types.specs.Content.{PlainTyped}
use Rattle.tml_types.specs.Places.{IsPlaceSmall}
use Rattle.tml_types.specs.Rules.{IsNoDate, is_missing, is_bad, is_conflict}
use Rattle.tml_types.specs.References.{kind_of, tag_name}
use Rattle.tml_types.specs.Table.{attribute_rows}
use Rattle.tml_types.specs.Typing.{HasFields}
use Rattle.tml_types.specs.Values.{value_of}
use Rattle.tml_types.specs.View.{typed_of}
use Rattle.tml_types.specs.Whole.{Types}

-- a tag of a known name
abbrev pub tag_at : ℕ → TagName → List Attribute → PlainTag
tag_at place name attrs = record { place = place; name = text_of name; attrs = attrs }

-- the name of the tags of a kind
abbrev pub name_of_kind : TagKind → TagName
name_of_kind kind.Event = tag.Event
name_of_kind kind.Instance = tag.MakeInstance
name_of_kind kind.Timex = tag.Timex3
name_of_kind kind.Signal = tag.Signal
name_of_kind kind.Tlink = tag.Tlink
name_of_kind kind.Alink = tag.Alink
name_of_kind kind.Slink = tag.Slink

-- no rule is broken by a tag of this name with these attributes, but maybe that of repeated names, and this is its typed tag
pub record ReadsTag (name : TagName) (attrs : List Attribute) (place : ℕ) (t : PlainTyped) : Type 0 where
  pub none_missing : list_any (is_missing attrs) (attribute_rows name) ≡ false
  pub none_bad : list_any (is_bad attrs) (attribute_rows name) ≡ false
  pub no_conflict : list_any (is_conflict attrs) (attribute_rows name) ≡ false
  pub place_is : t.place ≡ place
  pub small : IsPlaceSmall t
  pub kind : text_of name ≡ tag_name (kind_of t.content)
  pub fields : HasFields attrs t.content

-- this is the first rule that is broken, but maybe that of repeated names
abbrev pub RefusesTag : TagName → List Attribute → ℕ → TypeFault → Type 0
RefusesTag name attrs place (faults.MissingAttribute at) = (at ≡ place) × (list_any (is_missing attrs) (attribute_rows name) ≡ true)
RefusesTag name attrs place (faults.BadValue at) =
    (at ≡ place)
    × (list_any (is_missing attrs) (attribute_rows name) ≡ false)
    × (list_any (is_bad attrs) (attribute_rows name) ≡ true)
RefusesTag name attrs place (faults.Conflict at) =
    (at ≡ place)
    × (list_any (is_missing attrs) (attribute_rows name) ≡ false)
    × (list_any (is_bad attrs) (attribute_rows name) ≡ false)
    × (list_any (is_conflict attrs) (attribute_rows name) ≡ true)
RefusesTag name attrs place (faults.BadDate at) =
    (at ≡ place)
    × (list_any (is_missing attrs) (attribute_rows name) ≡ false)
    × (list_any (is_bad attrs) (attribute_rows name) ≡ false)
    × (list_any (is_conflict attrs) (attribute_rows name) ≡ false)
    × (name ≡ tag.Timex3)
    × IsNoDate (value_of (codes "value") attrs)
RefusesTag name attrs place fault = ⊥

-- a tag breaks no rule, and this is its typed tag, if it has one
abbrev pub Yields : PlainTag → Option TypedTag → Type 0
Yields tag t = Types (tag ∷ []) (map typed_of (option_to_list t)) × All IsPlaceSmall (map typed_of (option_to_list t))

-- the typed tags of some tags are added, and none of these tags breaks a rule
abbrev pub AddsTyped : List PlainTag → List TypedTag → List TypedTag → Type 0
AddsTyped tags old new = (more : List TypedTag) × Types tags (map typed_of more) × All IsPlaceSmall (map typed_of more) × (new ≡ old ++ more)
