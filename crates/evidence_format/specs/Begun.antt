-- The bad line of a text.
use Rattle.std.specs.Prelude.{◌≡◌, ℕ, List, Result}
use Rattle.line_texts.specs.Lines.{Lines}
use Rattle.line_texts.specs.Grammar.{Begins}
use Rattle.evidence_format.specs.Evidence.{PlainEvidence, IsText, IsWellFormed, text_lines}
use Rattle.evidence_format.specs.View.{plain}
use Rattle.evidence_format.specs.declared.evidence.Evidence.{Evidence}
use Rattle.line_texts.specs.declared.read.ReadEvidence.{ReadEvidence}
use Rattle.line_texts.specs.Begun.{IsBadLineBy, ReadsBy, TellsBadLineBy, TextOrBadLineBy}

abbrev pub HasLines : PlainEvidence → Lines → Type 0
HasLines e ls = IsWellFormed e × (ls ≡ text_lines e)

-- the lines are the first ones of the text of some evidence
abbrev pub IsBegun : Lines → Type 0
IsBegun ls = Begins HasLines ls

-- the first line with which the lines so far begin no text of evidence
abbrev pub IsBadLine : List ℕ → ℕ → Type 0
IsBadLine text line = IsBadLineBy IsBegun text line

-- this evidence was read, unless out of memory
abbrev pub ReadsEvidence : PlainEvidence → Result Evidence ReadEvidence → Type 0
ReadsEvidence e read = ReadsBy plain e read

-- the bad line is reported, unless out of memory
abbrev pub TellsBadLine : List ℕ → ReadEvidence → Type 0
TellsBadLine text refused = TellsBadLineBy IsBegun text refused

-- a text is that of some evidence, or is that of none and has a bad line
abbrev pub TextOrBadLine : List ℕ → Type 0
TextOrBadLine text = TextOrBadLineBy IsText IsBegun text
