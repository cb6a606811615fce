-- Good units: their names, values, texts and comments are UTF-8, and their values and texts have no bad reference.
use Rattle.std.specs.Prelude.{◌≡◌, ℕ, true, List, [], IsUtf8, ⊤}
use Rattle.std.specs.List.{AllByRecursion, list_all}
use Rattle.tml_span.specs.Bytes.{is_name, is_text_byte}
use Rattle.tml_span.specs.Units.{Attribute, Kind, comment, text, start_tag, end_tag, empty_tag, PlainUnit}
use Rattle.tml_span.specs.Whole.{IsWhole}
use Rattle.tml_span.specs.Written.{HasGoodReferences, IsContent}

-- its name is a name, its value is of text bytes and has no bad reference, and both are UTF-8
pub record IsGoodAttribute (a : Attribute) : Type 0 where
  pub named : is_name a.name ≡ true
  pub value : list_all is_text_byte a.value ≡ true
  pub references : HasGoodReferences a.value
  pub name_utf8 : IsUtf8 a.name
  pub value_utf8 : IsUtf8 a.value

-- its name is a name and UTF-8, and its attributes are good
pub record IsGoodTag (name : List ℕ) (attrs : List Attribute) : Type 0 where
  pub named : is_name name ≡ true
  pub utf8 : IsUtf8 name
  pub attributes : AllByRecursion IsGoodAttribute attrs

-- a tag is good; a comment or a text is as it can be written, and UTF-8; nothing is said of a Bom, a declaration and a doctype
abbrev pub IsGoodKind : Kind → Type 0
IsGoodKind (comment bytes) = IsContent (comment bytes) × IsUtf8 bytes
IsGoodKind (text bytes) = IsContent (text bytes) × IsUtf8 bytes
IsGoodKind (start_tag name attrs) = IsGoodTag name attrs
IsGoodKind (end_tag name) = IsGoodTag name []
IsGoodKind (empty_tag name attrs) = IsGoodTag name attrs
IsGoodKind kind = ⊤

-- and so is a unit of such a kind
abbrev pub IsGoodUnit : PlainUnit → Type 0
IsGoodUnit u = IsGoodKind u.kind

-- each unit of a source that has no fault is good
abbrev pub UnitsAreGood : Type 0
UnitsAreGood = (source : List ℕ) (units : List PlainUnit) → IsWhole (record { source = source; units = units }) → AllByRecursion IsGoodUnit units
