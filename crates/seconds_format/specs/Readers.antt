-- Serves the code: reading a placing or a cycle, line by line.
use Rattle.std.specs.Prelude.{ℕ, ℤ, List, [], ◌∷◌, Result, Ok}
use Rattle.line_texts.specs.Lines.{Lines}
use Rattle.line_texts.specs.Reading.{many_at, end_at, Read, ◌>>=◌, line_at}
use Rattle.line_texts.specs.Words.{same_of}
use Rattle.seconds_core.specs.Evidence.{PlainSeconds, Placed, Cycle}
use Rattle.seconds_core.specs.declared.line.Line.{Line}
use Rattle.seconds_format.specs.declared.head.SecondsHead.{SecondsHead}
use Rattle.seconds_format.specs.declared.head.SecondsHead.TheVariants as head
use Rattle.seconds_format.specs.Forms.{cycle_line_of, head_of}
use Rattle.seconds_format.specs.Texts.{seconds_first_line}
use Rattle.seconds_format.specs.Words.{pair_of}

-- the seconds of n intervals
abbrev pub pairs_at : ℕ → Lines → Read (List (ℤ × ℤ))
pairs_at n ls = many_at (λ rest. line_at pair_of rest) n ls

-- n lines of a cycle
abbrev pub cycle_at : ℕ → Lines → Read (List Line)
cycle_at n ls = many_at (λ rest. line_at cycle_line_of rest) n ls

-- the seconds of all intervals, one after another
abbrev pub seconds_of_pairs : List (ℤ × ℤ) → List ℤ
seconds_of_pairs [] = []
seconds_of_pairs (pair ∷ pairs) = pair.0 ∷ pair.1 ∷ seconds_of_pairs pairs

-- what follows the line that names the kind
unfoldable pub rest_at : SecondsHead → Lines → Read PlainSeconds
rest_at (head.Placing n) ls = do
  pairs ← pairs_at n ls
  Ok (Placed (seconds_of_pairs pairs.0), pairs.1)
rest_at (head.Cycle n) ls = do
  lines ← cycle_at n ls
  Ok (Cycle lines.0, lines.1)

unfoldable pub body_at : Lines → Read PlainSeconds
body_at ls = do
  head ← line_at head_of ls
  rest_at head.0 head.1

-- a whole text
unfoldable pub seconds_at : Lines → Result PlainSeconds Lines
seconds_at ls = do
  first ← line_at (same_of seconds_first_line) ls
  e ← body_at first.1
  end ← end_at e.1
  Ok e.0
