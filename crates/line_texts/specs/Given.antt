-- Serves the code: what it answers, beside what reading lines gives.
use Rattle.std.specs.Borrow.{Bor}
use Rattle.std.specs.List.{count_by}
use Rattle.std.specs.Prelude.{◌≡◌, ◌≤◌, ◌-◌, ◌+◌, ⊤, ℕ, List, length, take, Result, Ok, Err}
use Rattle.line_texts.specs.declared.read.ReadEvidence.{ReadEvidence}
use Rattle.line_texts.specs.declared.read.ReadEvidence.TheVariants as refused
use Rattle.line_texts.specs.declared.stop.Stop.{Stop}
use Rattle.line_texts.specs.declared.stop.Stop.TheVariants.{BadLine, Memory}
use Rattle.line_texts.specs.Lines.{Lines, is_lf, lines_of}
use Rattle.line_texts.specs.Reading.{Read}

abbrev pub ReadingStopsAt : {Y : Type 0} → Stop → Result Y Lines → Type 0
ReadingStopsAt Memory read = ⊤
ReadingStopsAt (BadLine rest) read = read ≡ Err (lines_of rest.now)

-- what a function answers, seen by a view, is what reading gives, unless out of memory
abbrev pub GivesOrStops : {X Y : Type 0} → (X → Y) → Result X Stop → Result Y Lines → Type 0
GivesOrStops view (Ok x) read = read ≡ Ok (view x)
GivesOrStops view (Err e) read = ReadingStopsAt e read

-- the rest of a text is what follows some values, as reading gives them, unless out of memory
abbrev pub SkipsValues : {A : Type 0} → Result (Bor (List ℕ)) Stop → Read (List A) → Type 0
SkipsValues {A} (Ok rest) read = (vs : List A) × (read ≡ Ok (vs, lines_of rest.now))
SkipsValues (Err e) read = ReadingStopsAt e read

-- the rest at which reading stops is no longer than the text
abbrev pub IsStopWithin : List ℕ → Stop → Type 0
IsStopWithin text Memory = ⊤
IsStopWithin text (BadLine rest) = length rest.now ≤ length text

-- why no value is read where reading stops: the line at which the rest begins is bad
abbrev pub refusal_of : List ℕ → Stop → ReadEvidence
refusal_of text Memory = refused.Memory
refusal_of text (BadLine rest) = refused.BadLine (count_by is_lf (take (length text - length rest.now) text) + 1)
