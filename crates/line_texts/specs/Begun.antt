-- Texts that are read, or are refused with their bad line.
use Rattle.std.specs.Prelude.{◌≡◌, ◌⊎◌, ℕ, ◌+◌, List, [], ◌∷◌, ◌++◌, length, ⊤, Result, Ok, Err}
use Rattle.line_texts.specs.Lines.{Lines, lines_of}
use Rattle.line_texts.specs.declared.read.ReadEvidence.{ReadEvidence}
use Rattle.line_texts.specs.declared.read.ReadEvidence.TheVariants.{BadLine, Memory}

-- the lines before it are begun; with it they are not, or there is no further line
abbrev pub IsBadLineBy : (Lines → Type 0) → List ℕ → ℕ → Type 0
IsBadLineBy AreBegun text line = (good : Lines) × (rest : Lines) × (lines_of text ≡ good ++ rest) × (line ≡ length good + 1) × AreBegun good × ((l : List ℕ) (more : Lines) → rest ≡ l ∷ more → AreBegun (good ++ l ∷ []) → ⊥)

-- this value was read, as it is seen by a view, unless out of memory
abbrev pub ReadsBy : {X A : Type 0} → (X → A) → A → Result X ReadEvidence → Type 0
ReadsBy view a (Ok x) = view x ≡ a
ReadsBy view a (Err Memory) = ⊤
ReadsBy view a (Err (BadLine line)) = ⊥

-- the bad line is reported, unless out of memory
abbrev pub TellsBadLineBy : (Lines → Type 0) → List ℕ → ReadEvidence → Type 0
TellsBadLineBy AreBegun text Memory = ⊤
TellsBadLineBy AreBegun text (BadLine line) = IsBadLineBy AreBegun text line

-- a text is that of no value, and its bad line is reported, unless out of memory
abbrev pub RefusesTextBy : {A : Type 0} → (A → List ℕ → Type 0) → (Lines → Type 0) → List ℕ → ReadEvidence → Type 0
RefusesTextBy IsTextOf AreBegun text Memory = ⊤
RefusesTextBy {A} IsTextOf AreBegun text (BadLine line) = ((a : A) → IsTextOf a text → ⊥) × IsBadLineBy AreBegun text line

-- a text is that of a value, or is that of none and has a bad line
abbrev pub TextOrBadLineBy : {A : Type 0} → (A → List ℕ → Type 0) → (Lines → Type 0) → List ℕ → Type 0
TextOrBadLineBy {A} IsTextOf AreBegun text = ((a : A) × IsTextOf a text) ⊎ (((a : A) → IsTextOf a text → ⊥) × (line : ℕ) × IsBadLineBy AreBegun text line)
