-- The lines of a text, each with its LF. Bytes after the last LF are a line too, which has none.
use Rattle.std.specs.Prelude.{ℕ, Bool, List, [], ◌∷◌, ◌==◌, if◌then◌else◌, codes}

abbrev pub Lines : Type 0
Lines = List (List ℕ)

abbrev pub is_lf : ℕ → Bool
is_lf b = b == 10

-- one byte more at the start of the first line
abbrev pub with_byte : ℕ → Lines → Lines
with_byte b [] = (b ∷ []) ∷ []
with_byte b (l ∷ ls) = (b ∷ l) ∷ ls

unfoldable pub lines_of : List ℕ → Lines
lines_of [] = []
lines_of (b ∷ bytes) = if is_lf b then (b ∷ []) ∷ lines_of bytes else with_byte b (lines_of bytes)

-- the line that ends a text
abbrev pub last_line : List ℕ
last_line = codes "end\n"
