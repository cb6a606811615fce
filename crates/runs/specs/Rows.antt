-- A command as a table: what comes next, by the contents that were read so far. Nothing here knows what commands there are.
use Rattle.std.specs.Prelude.{ℕ, List, ◌∷◌}
use Rattle.runs.specs.declared.status.Status.{Status}

-- a file to read: its name, the word for it in texts, and how many bytes it has at most
pub record File : Type 0 where
  pub name : List ℕ
  pub word : List ℕ
  pub limit : ℕ

-- what comes next: a file is read, or the answer is given, a status and a text
pub data Next : Type 0 where
  reads : File → Next
  answers : Status → List ℕ → Next

-- by the contents of the files that were read, in the order of reading, what comes next
abbrev pub Rows : Type 1
Rows = List (List ℕ) → Next → Type 0

-- the rows that are left once a file with these contents was read
abbrev pub once_read : List ℕ → Rows → Rows
once_read bytes rows = λ contents next. rows (bytes ∷ contents) next

-- after which contents and with which status the text of an answer is not determined
abbrev pub Freedom : Type 1
Freedom = List (List ℕ) → Status → Type 0

-- every text is determined
abbrev pub NeverFree : Freedom
NeverFree contents status = ⊥
