-- Units apart from their places, and how they are written: one space before each attribute, its value in double quotes, and no other white space in tags.
use Rattle.std.specs.Prelude.{◌≡◌, ◌≢◌, ℕ, ◌+◌, true, List, [], ◌∷◌, ◌++◌, length, codes, IsUtf8, ⊤}
use Rattle.std.specs.List.{All, flat_map, list_all}
use Rattle.tml_span.specs.Bytes.{byte, is_name, is_text_byte, is_value_byte}
use Rattle.tml_span.specs.References.{IsBadAt, IsNowhere}
use Rattle.tml_span.specs.Units.{Attribute, Kind, Lacks, bom, bom_bytes, declaration, doctype, comment, text, start_tag, end_tag, empty_tag, PlainUnit}
use Rattle.tml_span.specs.Whole.{IsWhole}

-- the quote about each value
abbrev pub double_quote : ℕ
double_quote = byte (codes "\"")

abbrev pub attribute_text : Attribute → List ℕ
attribute_text a = codes " " ++ a.name ++ codes "=\"" ++ a.value ++ codes "\""

-- the text of a unit of a kind, whatever places its attributes have
abbrev pub unit_text : Kind → List ℕ
unit_text bom = bom_bytes
unit_text (declaration bytes) = bytes
unit_text (doctype bytes) = bytes
unit_text (comment bytes) = bytes
unit_text (text bytes) = bytes
unit_text (start_tag name attrs) = codes "<" ++ name ++ flat_map attribute_text attrs ++ codes ">"
unit_text (end_tag name) = codes "</" ++ name ++ codes ">"
unit_text (empty_tag name attrs) = codes "<" ++ name ++ flat_map attribute_text attrs ++ codes "/>"

-- units written one after another
abbrev pub written : List Kind → List ℕ
written kinds = flat_map unit_text kinds

-- ---- where they stand there

-- an attribute whose space is written at a place
abbrev pub attribute_at : ℕ → Attribute → Attribute
attribute_at place a = record {
  start = place + 1;
  end = place + length (attribute_text a);
  name = a.name;
  value = a.value;
  quote = double_quote;
}

abbrev pub attributes_at : ℕ → List Attribute → List Attribute
attributes_at place [] = []
attributes_at place (a ∷ attrs) = attribute_at place a ∷ attributes_at (place + length (attribute_text a)) attrs

-- the attributes of a tag of this name that is written at a place
abbrev pub tag_attributes : ℕ → List ℕ → List Attribute → List Attribute
tag_attributes place name attrs = attributes_at (place + 1 + length name) attrs

abbrev pub kind_at : ℕ → Kind → Kind
kind_at place (start_tag name attrs) = start_tag name (tag_attributes place name attrs)
kind_at place (empty_tag name attrs) = empty_tag name (tag_attributes place name attrs)
kind_at place kind = kind

-- the unit of a kind that is written at a place
abbrev pub unit_at : ℕ → Kind → PlainUnit
unit_at place kind = record { start = place; end = place + length (unit_text kind); kind = kind_at place kind }

-- the units of these kinds, written one after another from a place on
abbrev pub units_at : ℕ → List Kind → List PlainUnit
units_at place [] = []
units_at place (kind ∷ kinds) = unit_at place kind ∷ units_at (place + length (unit_text kind)) kinds

-- ---- what can be written

-- no `&` is there with which no reference begins
abbrev pub HasGoodReferences : List ℕ → Type 0
HasGoodReferences bytes = IsNowhere (IsBadAt bytes)

-- a name is a name, and its value holds no double quote, no `<` and no bad reference
abbrev pub IsAttribute : Attribute → Type 0
IsAttribute a = (is_name a.name ≡ true) × (list_all (is_value_byte double_quote) a.value ≡ true) × HasGoodReferences a.value

abbrev pub IsTag : List ℕ → List Attribute → Type 0
IsTag name attrs = (is_name name ≡ true) × All IsAttribute attrs

-- a tag, a comment or a text; no Bom, no declaration and no doctype
abbrev pub IsContent : Kind → Type 0
IsContent (comment bytes) = (body : List ℕ) × (bytes ≡ codes "<!--" ++ body ++ codes "-->") × Lacks (codes "-->") body
IsContent (text bytes) = (bytes ≢ []) × (list_all is_text_byte bytes ≡ true) × HasGoodReferences bytes
IsContent (start_tag name attrs) = IsTag name attrs
IsContent (end_tag name) = is_name name ≡ true
IsContent (empty_tag name attrs) = IsTag name attrs
IsContent kind = ⊥

-- the first of these is a text
abbrev pub BeginsWithText : List Kind → Type 0
BeginsWithText (text bytes ∷ kinds) = ⊤
BeginsWithText kinds = ⊥

-- no text is followed by another one
abbrev pub NoTextsMeet : List Kind → Type 0
NoTextsMeet [] = ⊤
NoTextsMeet (text bytes ∷ kinds) = (BeginsWithText kinds → ⊥) × NoTextsMeet kinds
NoTextsMeet (kind ∷ kinds) = NoTextsMeet kinds

-- these can be written: none of them is a Bom, a declaration or a doctype, the first is no text, and no two texts meet
pub record AreWritable (kinds : List Kind) : Type 0 where
  pub content : All IsContent kinds
  pub apart : NoTextsMeet kinds
  pub begins : BeginsWithText kinds → ⊥
  pub utf8 : IsUtf8 (written kinds)

-- units that are written are cut again as they were
abbrev pub WrittenIsCut : Type 0
WrittenIsCut = (kinds : List Kind) → AreWritable kinds → IsWhole (record { source = written kinds; units = units_at 0 kinds })
