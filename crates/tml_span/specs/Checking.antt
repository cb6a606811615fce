-- Serves the code: units that are checked and not kept.
use Rattle.std.specs.Prelude.{◌≡◌, ℕ, List, [], ◌∷◌, ◌++◌, map, Option, Some, None, MatchOption}
use Rattle.tml_span.specs.declared.check.Checked.{Checked}
use Rattle.tml_span.specs.Cutting.{Stops, FindsUnit}
use Rattle.tml_span.specs.Reading.{ReadsAttributes}
use Rattle.tml_span.specs.References.{Piece, IsBadIn, IsLeastPlace, IsNowhere, FirstBadIn, pieces_of, value_piece}
use Rattle.tml_span.specs.Units.{Attribute, PlainUnit}

-- the first bad place in the first piece that has one, or none where no piece has one
abbrev pub FirstInOrder : List Piece → Option ℕ → Type 0
FirstInOrder pieces None = IsNowhere (IsBadIn pieces)
FirstInOrder pieces (Some place) = (before : List Piece) × (piece : Piece) × (after : List Piece) × (pieces ≡ before ++ piece ∷ after) × IsNowhere (IsBadIn before) × IsLeastPlace (IsBadIn (piece ∷ [])) place

-- attributes and the first bad place in their values
abbrev pub ChecksAttributes : ℕ → List ℕ → Checked → Type 0
ChecksAttributes place bytes c = (attrs : List Attribute) × ReadsAttributes place bytes attrs c.rest.now × FirstInOrder (map value_piece attrs) c.bad

-- with one piece more
abbrev pub AddsPiece : Option ℕ → Piece → Option ℕ → Type 0
AddsPiece old piece new = (pieces : List Piece) → FirstInOrder pieces old → FirstInOrder (pieces ++ piece ∷ []) new

-- the bytes at a place begin with a unit, and this is the first bad place in it
abbrev pub HasUnit : ℕ → List ℕ → Checked → Type 0
HasUnit place bytes c = (u : PlainUnit) × FindsUnit place bytes u c.rest.now × FirstBadIn (pieces_of u) c.bad

-- the same, or none where no unit begins
abbrev pub ChecksUnit : ℕ → List ℕ → Option Checked → Type 0
ChecksUnit place bytes found = MatchOption found (Stops place bytes) (HasUnit place bytes)
