-- Lines that are begun, by the parts of a text.
use Rattle.std.specs.Prelude.{◌≡◌, ◌↔◌, ◌⊎◌, ℕ, ◌≤◌, ℤ, List, ◌∷◌, length, map, codes}
use Rattle.std.specs.List.{All}
use Rattle.line_texts.specs.Numbers.{IsNumber, one_number}
use Rattle.line_texts.specs.Lines.{Lines}
use Rattle.line_texts.specs.Parts.{IsBegunText}
use Rattle.seconds_core.specs.declared.line.Line.{Line}
use Rattle.seconds_format.specs.Begun.{IsBegunSeconds}
use Rattle.seconds_format.specs.Texts.{HasLineNumbers, IsLongPair, IsWellFormedSeconds, seconds_at_line, seconds_body_lines, cycle_line, seconds_first_line}

-- a placing of some number of intervals, with the seconds of no more
abbrev pub IsBegunPlacing : Lines → Type 0
IsBegunPlacing ls = (n : ℕ) × (pairs : List (ℤ × ℤ)) × IsNumber n × All IsLongPair pairs × (length pairs ≤ n) × (ls ≡ one_number (codes "placing ") n ∷ map seconds_at_line pairs)

-- a cycle of some number of lines, with no more of them
abbrev pub IsBegunCycle : Lines → Type 0
IsBegunCycle ls = (n : ℕ) × (lines : List Line) × IsNumber n × All HasLineNumbers lines × (length lines ≤ n) × (ls ≡ one_number (codes "cycle ") n ∷ map cycle_line lines)

-- what stands after the first line: a begun placing, or a begun cycle
abbrev pub IsBegunSecondsBody : Lines → Type 0
IsBegunSecondsBody ls = IsBegunPlacing ls ⊎ IsBegunCycle ls

-- no line; the first line alone; a begun body after it; or the lines of a whole text
abbrev pub IsBegunSecondsByParts : Lines → Type 0
IsBegunSecondsByParts ls = IsBegunText IsWellFormedSeconds seconds_first_line seconds_body_lines IsBegunSecondsBody ls

-- the law: both say the same
abbrev pub SameBegunSeconds : Type 0
SameBegunSeconds = (ls : Lines) → IsBegunSecondsByParts ls ↔ IsBegunSeconds ls
