-- References, and where one is bad.
use Rattle.std.specs.Prelude.{◌≡◌, ◌⊎◌, ℕ, ◌+◌, ◌-◌, ◌<◌, ◌≤◌, true, List, [], ◌∷◌, ◌++◌, length, codes, Contains, map, Option, Some, MatchOption, slice_get}
use Rattle.std.specs.List.{list_all, AllByRecursion}
use Rattle.tml_span.specs.Bytes.{byte, is_digit, is_hex_digit}
use Rattle.tml_span.specs.Units.{Attribute, Kind, text, start_tag, empty_tag, PlainUnit}

-- `&lt;`, `&gt;`, `&amp;`, `&quot;` and `&apos;`
abbrev pub named_references : List (List ℕ)
named_references = codes "&lt;" ∷ codes "&gt;" ∷ codes "&amp;" ∷ codes "&quot;" ∷ codes "&apos;" ∷ []

-- `&#`, 1 to 7 digits and `;`
pub record IsDecimalReference (bytes : List ℕ) : Type 0 where
  pub digits : List ℕ
  pub whole : bytes ≡ codes "&#" ++ digits ++ codes ";"
  pub some : 1 ≤ length digits
  pub most : length digits ≤ 7
  pub kind : list_all is_digit digits ≡ true

-- `&#x`, 1 to 6 hexadecimal digits and `;`
pub record IsHexReference (bytes : List ℕ) : Type 0 where
  pub digits : List ℕ
  pub whole : bytes ≡ codes "&#x" ++ digits ++ codes ";"
  pub some : 1 ≤ length digits
  pub most : length digits ≤ 6
  pub kind : list_all is_hex_digit digits ≡ true

abbrev pub IsReference : List ℕ → Type 0
IsReference bytes = Contains named_references bytes ⊎ IsDecimalReference bytes ⊎ IsHexReference bytes

-- a prefix of the bytes is so
abbrev pub HasPrefix : (List ℕ → Type 0) → List ℕ → Type 0
HasPrefix Is bytes = (prefix : List ℕ) × (suffix : List ℕ) × (bytes ≡ prefix ++ suffix) × Is prefix

-- the bytes begin with a reference
abbrev pub BeginsReference : List ℕ → Type 0
BeginsReference bytes = HasPrefix IsReference bytes

-- after digits, of which there are some and at most a number, is a `;`
abbrev pub EndsDigits : ℕ → ℕ → List ℕ → Type 0
EndsDigits digits most bytes = (1 ≤ digits) × (digits ≤ most) × (slice_get bytes digits ≡ Some (byte (codes ";")))

-- at an index of the bytes is an `&` with which no reference begins
pub record IsBadAt (bytes : List ℕ) (index : ℕ) : Type 0 where
  pub prefix : List ℕ
  pub suffix : List ℕ
  pub whole : bytes ≡ prefix ++ (codes "&" ++ suffix)
  pub index_is : index ≡ length prefix
  pub bad : BeginsReference (codes "&" ++ suffix) → ⊥

-- bytes that may hold references, with their place
abbrev pub Piece : Type 0
Piece = ℕ × List ℕ

-- the value of an attribute ends before its closing quote
abbrev pub value_piece : Attribute → Piece
value_piece a = (a.end - 1 - length a.value, a.value)

abbrev pub kind_pieces : ℕ → Kind → List Piece
kind_pieces start (text bytes) = (start, bytes) ∷ []
kind_pieces start (start_tag name attrs) = map value_piece attrs
kind_pieces start (empty_tag name attrs) = map value_piece attrs
kind_pieces start kind = []

-- references are in a text, and in the values of attributes
abbrev pub pieces_of : PlainUnit → List Piece
pieces_of u = kind_pieces u.start u.kind

-- at a place in one of the pieces is an `&` with which no reference begins
abbrev pub IsBadIn : List Piece → ℕ → Type 0
IsBadIn [] place = ⊥
IsBadIn (piece ∷ pieces) place = ((index : ℕ) × IsBadAt piece.1 index × (place ≡ piece.0 + index)) ⊎ IsBadIn pieces place

-- the same of the pieces of units
abbrev pub IsBadInUnits : List PlainUnit → ℕ → Type 0
IsBadInUnits [] place = ⊥
IsBadInUnits (u ∷ units) place = IsBadIn (pieces_of u) place ⊎ IsBadInUnits units place

-- the least place at which something is bad
abbrev pub IsLeastPlace : (ℕ → Type 0) → ℕ → Type 0
IsLeastPlace Bad place = Bad place × ((other : ℕ) → Bad other → place ≤ other)

-- nothing is bad at any place
abbrev pub IsNowhere : (ℕ → Type 0) → Type 0
IsNowhere Bad = (place : ℕ) → Bad place → ⊥

-- the first bad place in these pieces, or none where none is bad
abbrev pub FirstBadIn : List Piece → Option ℕ → Type 0
FirstBadIn pieces bad = MatchOption bad (IsNowhere (IsBadIn pieces)) (IsLeastPlace (IsBadIn pieces))

-- the pieces follow each other, from a place up to another
abbrev pub FollowEachOther : ℕ → List Piece → ℕ → Type 0
FollowEachOther low [] high = low ≤ high
FollowEachOther low (piece ∷ pieces) high = (low ≤ piece.0) × FollowEachOther (piece.0 + length piece.1) pieces high

-- a value ends before its attribute does
abbrev pub EndsWithinAttribute : Attribute → Type 0
EndsWithinAttribute a = length a.value < a.end

abbrev pub kind_attributes : Kind → List Attribute
kind_attributes (start_tag name attrs) = attrs
kind_attributes (empty_tag name attrs) = attrs
kind_attributes kind = []

-- the pieces of a unit are in order within its span
pub record HasPiecesInOrder (u : PlainUnit) : Type 0 where
  pub follows : FollowEachOther u.start (pieces_of u) u.end
  pub within : AllByRecursion EndsWithinAttribute (kind_attributes u.kind)
