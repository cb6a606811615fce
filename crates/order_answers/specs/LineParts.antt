-- Serves the code: what the lines of relations begin and end with.
use Rattle.std.specs.Prelude.{◌≡◌, ℕ, ◌<◌, All, List, [], ◌++◌, codes, length, map, slice_index_or, IfSome}
use Rattle.net_core.specs.Rels.{rel_text}
use Rattle.net_core.specs.declared.rels.Rel.{Rel}
use Rattle.order_answers.specs.declared.relations.LineStart.{LineStart}
use Rattle.order_answers.specs.declared.relations.LineStarts.{LineStarts}

-- the name of the first interval and the relation, with a space after each
abbrev pub line_start : List ℕ → Rel → List ℕ
line_start a rel = a ++ codes " " ++ rel_text rel ++ codes " "

-- if it is that of some row, it is what the lines of such rows begin with
abbrev pub IsStart : List (List ℕ) → LineStart → Type 0
IsStart names start = IfSome start.of (λ of. (of.0 < length names) × (start.text.items ≡ line_start (slice_index_or names of.0 []) of.1))

-- each of them is such a start
abbrev pub AreStarts : List (List ℕ) → LineStarts → Type 0
AreStarts names starts = All (IsStart names) starts.starts.items

-- the name of the second interval and the end of the line
abbrev pub line_end : List ℕ → List ℕ
line_end b = b ++ codes "\n"

-- they are what the lines of rows end with, by their second interval
abbrev pub AreEnds : List (List ℕ) → List (List ℕ) → Type 0
AreEnds names ends = ends ≡ map line_end names
