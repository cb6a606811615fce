-- Lines that are begun, by their parts. A part can be begun, and it can be whole.
use Rattle.std.specs.Prelude.{[], ◌∷◌, ◌≡◌, ℕ, ◌<◌, ◌⊎◌, List, ◌++◌, length}
use Rattle.std.specs.List.{All, flat_map}
use Rattle.line_texts.specs.Lines.{Lines, last_line}

-- no line, or those of a begun part
abbrev pub MayBegin : (Lines → Type 0) → Lines → Type 0
MayBegin IsBegunPart ls = (ls ≡ []) ⊎ IsBegunPart ls

-- whole parts of one kind, fewer than this number, and one more that may be begun; or this number
abbrev pub AreBegunParts : {A : Type 0} → (A → Type 0) → (A → Lines) → (Lines → Type 0) → ℕ → Lines → Type 0
AreBegunParts {A} IsWhole lines IsBegunPart n ls = (parts : List A) × (rest : Lines) × All IsWhole parts × (ls ≡ flat_map lines parts ++ rest)
    × (((length parts < n) × MayBegin IsBegunPart rest) ⊎ ((length parts ≡ n) × (rest ≡ [])))

-- no line; the first line alone; a begun body after it; or the lines of a whole text
abbrev pub IsBegunText : {A : Type 0} → (A → Type 0) → List ℕ → (A → Lines) → (Lines → Type 0) → Lines → Type 0
IsBegunText {A} Fits first body IsBegunBody ls =
    (ls ≡ [])
    ⊎ (ls ≡ first ∷ [])
    ⊎ ((rest : Lines) × IsBegunBody rest × (ls ≡ first ∷ rest))
    ⊎ ((a : A) × Fits a × (ls ≡ first ∷ (body a ++ last_line ∷ [])))
