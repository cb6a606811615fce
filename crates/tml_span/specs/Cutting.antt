-- How a source is cut into units.
use Rattle.std.specs.Prelude.{◌≡◌, ℕ, ◌+◌, false, List, [], ◌∷◌, ◌++◌, length}
use Rattle.tml_span.specs.Bytes.{is_text_byte}
use Rattle.tml_span.specs.Units.{Kind, text, PlainUnit, Spelled}

-- a text is as long as can be: `<` follows it, or nothing
abbrev pub Ends : Kind → List ℕ → Type 0
Ends (text bytes) [] = Unit {0}
Ends (text bytes) (b ∷ rest) = is_text_byte b ≡ false
Ends kind rest = Unit {0}

-- no unit begins there
abbrev pub Stops : ℕ → List ℕ → Type 0
Stops place rest = (u : PlainUnit) (prefix suffix : List ℕ) → rest ≡ prefix ++ suffix → Spelled place u prefix → ⊥

-- the bytes begin with this unit, and the rest follows it
abbrev pub FindsUnit : ℕ → List ℕ → PlainUnit → List ℕ → Type 0
FindsUnit place bytes u rest = (prefix : List ℕ) × (bytes ≡ prefix ++ rest) × Spelled place u prefix × Ends u.kind rest

-- from a place on, the bytes are these units and then a rest with which no unit begins
abbrev pub CutsFrom : ℕ → List ℕ → List PlainUnit → List ℕ → Type 0
CutsFrom place bytes [] rest = (bytes ≡ rest) × Stops place rest
CutsFrom place bytes (u ∷ units) rest = (prefix : List ℕ) × (suffix : List ℕ) × (bytes ≡ prefix ++ suffix) × Spelled place u prefix × Ends u.kind suffix × CutsFrom (place + length prefix) suffix units rest

-- The cut of a source: its units, and the rest with which no unit begins.
abbrev pub Cuts : List ℕ → List PlainUnit → List ℕ → Type 0
Cuts source units rest = CutsFrom 0 source units rest

-- a source is cut in one way
abbrev pub OneCut : Type 0
OneCut = (source : List ℕ) (units others : List PlainUnit) (rest after : List ℕ) → Cuts source units rest → Cuts source others after → (units ≡ others) × (rest ≡ after)

-- every source has a cut
abbrev pub EveryCut : Type 0
EveryCut = (source : List ℕ) → (units : List PlainUnit) × (rest : List ℕ) × Cuts source units rest
