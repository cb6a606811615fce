-- The files that are read, one after another.
use Rattle.std.specs.Prelude.{◌≡◌, ℕ, ◌+◌, ◌≤◌, List, [], ◌∷◌, length, ⊤}
use Rattle.std.specs.declared.option.Option.{Option}
use Rattle.tml_io.specs.Files.{Files, HasContents, IsThere}
use Rattle.runs.specs.Rows.{File, Rows, reads, once_read}

-- the file has these contents, as far as the files are known, and they are within its limit
abbrev pub ReadsWhole : Option Files → File → List ℕ → Type 0
ReadsWhole known file bytes = HasContents known file.name bytes × (length bytes ≤ file.limit)

-- these are the contents of the first files that are read, in the order of reading
abbrev pub AreFirstContents : Option Files → Rows → List (List ℕ) → Type 0
AreFirstContents known rows [] = ⊤
AreFirstContents known rows (bytes ∷ rest) = (file : File) × rows [] (reads file) × ReadsWhole known file bytes × AreFirstContents known (once_read bytes rows) rest

-- it may come to reading this file
abbrev pub Reached : Option Files → Rows → File → Type 0
Reached known rows file = (contents : List (List ℕ)) × AreFirstContents known rows contents × rows contents (reads file)

-- names are started in this order: each is that of the next file to be read, once the files of those before it were read whole
abbrev pub AreStarted : Option Files → Rows → List (List ℕ) → Type 0
AreStarted known rows [] = ⊤
AreStarted known rows (name ∷ []) = (file : File) × rows [] (reads file) × (name ≡ file.name)
AreStarted known rows (name ∷ next ∷ names) = (file : File) × (bytes : List ℕ) × rows [] (reads file) × (name ≡ file.name) × ReadsWhole known file bytes × AreStarted known (once_read bytes rows) (next ∷ names)

-- it comes to reading no file
abbrev pub NoneReached : Option Files → Rows → Type 0
NoneReached known rows = (file : File) → Reached known rows file → ⊥

-- each file that it may come to reading is there
abbrev pub AllThere : Option Files → Rows → Type 0
AllThere known rows = (file : File) → Reached known rows file → IsThere known file.name

-- how many bytes some contents have
abbrev pub total_length : List (List ℕ) → ℕ
total_length [] = 0
total_length (bytes ∷ rest) = length bytes + total_length rest
