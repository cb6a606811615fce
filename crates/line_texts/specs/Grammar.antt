-- Lines that stand for values.
use Rattle.std.specs.Prelude.{◌≡◌, ℕ, List, [], ◌∷◌, ◌++◌}
use Rattle.line_texts.specs.Lines.{Lines}

-- the lines are the first ones of those of some value
abbrev pub Begins : {A : Type 0} → (A → Lines → Type 0) → Lines → Type 0
Begins {A} G ls = (a : A) × (more : Lines) × G a (ls ++ more)

-- the lines of a value, and then those of another one that depends on it
abbrev pub Then : {A B : Type 0} → (A → Lines → Type 0) → (A → B → Lines → Type 0) → B → Lines → Type 0
Then {A} G H b ls = (a : A) × (prefix : Lines) × (suffix : Lines) × G a prefix × H a b suffix × (ls ≡ prefix ++ suffix)

-- the lines up to the rest begin a value, and with one line more they begin none
abbrev pub Stuck : {A : Type 0} → (A → Lines → Type 0) → Lines → Lines → Type 0
Stuck G ls rest = (prefix : Lines) × (ls ≡ prefix ++ rest) × Begins G prefix × ((l : List ℕ) (more : Lines) → rest ≡ l ∷ more → Begins G (prefix ++ l ∷ []) → ⊥)
