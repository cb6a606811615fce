-- The bad line of a text.
use Rattle.std.specs.Prelude.{◌≡◌, ℕ, List, Result}
use Rattle.line_texts.specs.Begun.{IsBadLineBy, ReadsBy, TellsBadLineBy, TextOrBadLineBy}
use Rattle.line_texts.specs.Grammar.{Begins}
use Rattle.line_texts.specs.Lines.{Lines}
use Rattle.line_texts.specs.declared.read.ReadEvidence.{ReadEvidence}
use Rattle.seconds_core.specs.Evidence.{PlainSeconds}
use Rattle.seconds_core.specs.View.{evidence_of}
use Rattle.seconds_core.specs.declared.evidence.SecondsEvidence.{SecondsEvidence}
use Rattle.seconds_format.specs.Texts.{IsSecondsText, IsWellFormedSeconds, seconds_text_lines}

abbrev pub HasSecondsLines : PlainSeconds → Lines → Type 0
HasSecondsLines e ls = IsWellFormedSeconds e × (ls ≡ seconds_text_lines e)

-- the lines are the first ones of the text of some placing or cycle
abbrev pub IsBegunSeconds : Lines → Type 0
IsBegunSeconds ls = Begins HasSecondsLines ls

-- the first line with which the lines so far begin no text of a placing or a cycle, or the one after the last
abbrev pub IsBadSecondsLine : List ℕ → ℕ → Type 0
IsBadSecondsLine text line = IsBadLineBy IsBegunSeconds text line

-- this evidence was read, unless out of memory
abbrev pub ReadsSeconds : PlainSeconds → Result SecondsEvidence ReadEvidence → Type 0
ReadsSeconds e read = ReadsBy evidence_of e read

-- the bad line is reported, unless out of memory
abbrev pub TellsBadSecondsLine : List ℕ → ReadEvidence → Type 0
TellsBadSecondsLine text refused = TellsBadLineBy IsBegunSeconds text refused

-- a text is that of some evidence, or is that of none and has a bad line
abbrev pub SecondsTextOrBadLine : List ℕ → Type 0
SecondsTextOrBadLine text = TextOrBadLineBy IsSecondsText IsBegunSeconds text
