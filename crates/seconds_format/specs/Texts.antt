-- The one text of a placing, or of a cycle.
use Rattle.std.specs.Prelude.{◌≡◌, ℕ, ℤ, List, [], ◌∷◌, ◌++◌, length, map, codes, FitsSigned}
use Rattle.std.specs.Fmt.{signed_decimal}
use Rattle.std.specs.Int.{w64}
use Rattle.std.specs.List.{All, concat}
use Rattle.line_texts.specs.Numbers.{IsNumber, one_number, two_numbers}
use Rattle.line_texts.specs.Lines.{last_line, Lines}
use Rattle.seconds_core.specs.Evidence.{ArePairs, PlainSeconds, Placed, Cycle}
use Rattle.seconds_core.specs.declared.line.Line.{Line}
use Rattle.seconds_core.specs.declared.line.Line.TheVariants.{Span, Via, Lower, Upper, Least, Most}

-- a second that can stand in a text
abbrev pub IsLong : ℤ → Type 0
IsLong second = FitsSigned w64 second

-- the seconds of an interval can stand in a text
abbrev pub IsLongPair : ℤ × ℤ → Type 0
IsLongPair pair = IsLong pair.0 × IsLong pair.1

-- the numbers of a line of a cycle can stand in a text
abbrev pub HasLineNumbers : Line → Type 0
HasLineNumbers (Span i) = IsNumber i
HasLineNumbers (Via link atom) = IsNumber link × IsNumber atom
HasLineNumbers (Lower p) = IsNumber p
HasLineNumbers (Upper p) = IsNumber p
HasLineNumbers (Least i) = IsNumber i
HasLineNumbers (Most i) = IsNumber i

-- all numbers can stand in a text, and how many intervals or lines there are
abbrev pub IsWellFormedSeconds : PlainSeconds → Type 0
IsWellFormedSeconds (Placed seconds) = ArePairs seconds × All IsLong seconds
IsWellFormedSeconds (Cycle lines) = All HasLineNumbers lines × IsNumber (length lines)

-- the start and the end of each interval
abbrev pub pairs_of_seconds : List ℤ → List (ℤ × ℤ)
pairs_of_seconds [] = []
pairs_of_seconds (start ∷ []) = []
pairs_of_seconds (start ∷ finish ∷ seconds) = (start, finish) ∷ pairs_of_seconds seconds

-- the seconds of an interval; one before second 0 has the sign -
abbrev pub seconds_at_line : ℤ × ℤ → List ℕ
seconds_at_line pair = codes "at " ++ signed_decimal pair.0 ++ codes " " ++ signed_decimal pair.1 ++ codes "\n"

-- what names a constraint
abbrev pub cycle_line : Line → List ℕ
cycle_line (Span i) = one_number (codes "span ") i
cycle_line (Via link atom) = two_numbers (codes "via ") link atom
cycle_line (Lower p) = one_number (codes "lower ") p
cycle_line (Upper p) = one_number (codes "upper ") p
cycle_line (Least i) = one_number (codes "least ") i
cycle_line (Most i) = one_number (codes "most ") i

-- how many intervals there are, and the seconds of each; or how many lines there are, and each of them
abbrev pub seconds_body_lines : PlainSeconds → Lines
seconds_body_lines (Placed seconds) = one_number (codes "placing ") (length (pairs_of_seconds seconds)) ∷ map seconds_at_line (pairs_of_seconds seconds)
seconds_body_lines (Cycle lines) = one_number (codes "cycle ") (length lines) ∷ map cycle_line lines

abbrev pub seconds_first_line : List ℕ
seconds_first_line = codes "tml-seconds 1\n"

abbrev pub seconds_text_lines : PlainSeconds → Lines
seconds_text_lines e = seconds_first_line ∷ (seconds_body_lines e ++ last_line ∷ [])

-- the text of a placing or a cycle
abbrev pub IsSecondsText : PlainSeconds → List ℕ → Type 0
IsSecondsText e text = IsWellFormedSeconds e × (text ≡ concat (seconds_text_lines e))
