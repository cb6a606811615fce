-- Where the slices of a unit are in the source.
use Rattle.std.specs.Prelude.{◌≡◌, ℕ, ◌+◌, ◌-◌, List, length, slice_range}
use Rattle.std.specs.List.{AllByRecursion}
use Rattle.tml_span.specs.Units.{Attribute, Kind, bom, declaration, doctype, comment, text, start_tag, end_tag, empty_tag, PlainUnit}
use Rattle.tml_span.specs.Cutting.{Cuts}

-- the source at a place is this slice
abbrev pub IsAt : List ℕ → ℕ → List ℕ → Type 0
IsAt source place slice = slice_range source place (place + length slice) ≡ slice

-- the name is at the start, and the value before the closing quote
abbrev pub AttributeIsIn : List ℕ → Attribute → Type 0
AttributeIsIn source a = IsAt source a.start a.name × IsAt source (a.end - 1 - length a.value) a.value

-- what has all its bytes is the source at its span; a name is after `<` or `</`
abbrev pub KindIsIn : List ℕ → ℕ → ℕ → Kind → Type 0
KindIsIn source start end bom = Unit {0}
KindIsIn source start end (declaration bytes) = slice_range source start end ≡ bytes
KindIsIn source start end (doctype bytes) = slice_range source start end ≡ bytes
KindIsIn source start end (comment bytes) = slice_range source start end ≡ bytes
KindIsIn source start end (text bytes) = slice_range source start end ≡ bytes
KindIsIn source start end (start_tag name attrs) = IsAt source (start + 1) name × AllByRecursion (AttributeIsIn source) attrs
KindIsIn source start end (end_tag name) = IsAt source (start + 2) name
KindIsIn source start end (empty_tag name attrs) = IsAt source (start + 1) name × AllByRecursion (AttributeIsIn source) attrs

-- each slice of the unit is the source at its place
abbrev pub UnitIsIn : List ℕ → PlainUnit → Type 0
UnitIsIn source u = KindIsIn source u.start u.end u.kind

-- each slice of each unit of a cut is the source at its place
abbrev pub SlicesAreInSource : Type 0
SlicesAreInSource = (source : List ℕ) (units : List PlainUnit) (rest : List ℕ) → Cuts source units rest → AllByRecursion (UnitIsIn source) units
