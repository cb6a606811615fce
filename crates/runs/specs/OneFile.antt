-- Commands that read one file, and answer by its contents.
use Rattle.std.specs.Prelude.{◌≡◌, ℕ, List, [], ◌∷◌}
use Rattle.runs.specs.declared.status.Status.{Status}
use Rattle.runs.specs.Rows.{File, Freedom, Rows, reads, answers}

-- the answers to the contents of one file
abbrev pub Answers : Type 1
Answers = List ℕ → Status → List ℕ → Type 0

-- one file is read, and then its contents are answered
abbrev pub of_one_file : File → Answers → Rows
of_one_file file Of [] (reads other) = other ≡ file
of_one_file file Of (bytes ∷ []) (answers status text) = Of bytes status text
of_one_file file Of contents next = ⊥

-- of which contents the text of an answer is not determined
abbrev pub of_its_bytes : (List ℕ → Status → Type 0) → Freedom
of_its_bytes IsFree (bytes ∷ []) status = IsFree bytes status
of_its_bytes IsFree contents status = ⊥
