-- Serves the code: reading lines in their order, which gives a value and the lines that follow it, or the lines from the bad one on.
use Rattle.std.specs.Prelude.{ℕ, List, [], ◌∷◌, Option, Some, None, Result, Ok, Err, zero, suc}
use Rattle.line_texts.specs.Lines.{Lines, last_line}
use Rattle.line_texts.specs.Words.{same_of}

abbrev pub Read : Type 0 → Type 0
Read A = Result (A × Lines) Lines

infixl 10 ◌>>=◌
abbrev pub ◌>>=◌ : {A B : Type 0} → Result A Lines → (A → Result B Lines) → Result B Lines
(Ok x) >>= f = f x
(Err ls) >>= f = Err ls

-- the value of a line, where it has one
abbrev pub taken : {A : Type 0} → Option A → List ℕ → Lines → Read A
taken (Some a) l ls = Ok (a, ls)
taken None l ls = Err (l ∷ ls)

-- the value of the next line, by the form of such lines
abbrev pub line_at : {A : Type 0} → (List ℕ → Option A) → Lines → Read A
line_at form [] = Err []
line_at form (l ∷ ls) = taken (form l) l ls

-- a value with no line after it
abbrev pub ended : {A : Type 0} → A → Lines → Result A Lines
ended a [] = Ok a
ended a (l ∷ ls) = Err (l ∷ ls)

-- n values, one after another
unfoldable pub many_at : {A : Type 0} → (Lines → Read A) → ℕ → Lines → Read (List A)
many_at p zero ls = Ok ([], ls)
many_at p (suc n) ls = do
  a ← p ls
  more ← many_at p n a.1
  Ok (a.0 ∷ more.0, more.1)

-- the last line, with nothing after it
unfoldable pub end_at : Lines → Result (Unit {0}) Lines
end_at ls = do
  last ← line_at (same_of last_line) ls
  ended last.0 last.1
