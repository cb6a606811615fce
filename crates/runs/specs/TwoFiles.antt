-- Commands that read a file, judge it by itself, and read a second one only where the first is not refused.
use Rattle.std.specs.Prelude.{◌≡◌, ◌⊎◌, false, ℕ, List, [], ◌∷◌, Some}
use Rattle.tml_io.specs.Files.{Files}
use Rattle.runs.specs.declared.status.Status.{Status}
use Rattle.runs.specs.declared.status.Status.TheVariants.{NoMemory}
use Rattle.runs.specs.OneFile.{Answers}
use Rattle.runs.specs.OneReply.{is_aborted}
use Rattle.runs.specs.Reading.{AllThere, Reached}
use Rattle.runs.specs.Replies.{Replies}
use Rattle.runs.specs.Rows.{File, Freedom, Rows, reads, answers}

-- how a first file is judged: what it says, and how it is answered where it is refused
pub record Judging (C : Type 0) : Type 1 where
  pub Says : List ℕ → C → Type 0
  pub IsRefused : Answers

-- the first file is not refused
abbrev pub IsNotRefused : {C : Type 0} → Judging C → List ℕ → Type 0
IsNotRefused {C} judging one = (c : C) × judging.Says one c

-- the first file is not refused, and the second one is answered by what the first one says
abbrev pub after_first : {C : Type 0} → Judging C → (C → Answers) → List ℕ → Answers
after_first {C} judging Of one other status text = (c : C) × judging.Says one c × Of c other status text

-- the first file is read and judged, and where it is not refused the second one is read
abbrev pub of_two_files : {C : Type 0} → Judging C → File → File → (C → Answers) → Rows
of_two_files judging first second Of [] (reads file) = file ≡ first
of_two_files judging first second Of (one ∷ []) (answers status text) = judging.IsRefused one status text
of_two_files judging first second Of (one ∷ []) (reads file) = IsNotRefused judging one × (file ≡ second)
of_two_files judging first second Of (one ∷ other ∷ []) (answers status text) = after_first judging Of one other status text
of_two_files judging first second Of contents next = ⊥

-- the first file is refused, or out of memory
abbrev pub CannotJudge : {C : Type 0} → Judging C → List ℕ → Status → List ℕ → Type 0
CannotJudge judging one status text = judging.IsRefused one status text ⊎ ((status ≡ NoMemory) × (text ≡ []))

-- of which second file the text of an answer is not determined, by what the first one says
abbrev pub of_both : {C : Type 0} → Judging C → (C → List ℕ → Status → Type 0) → Freedom
of_both {C} judging IsFree (one ∷ other ∷ []) status = (c : C) × judging.Says one c × IsFree c other status
of_both {C} judging IsFree contents status = ⊥

-- Where the first file is refused, each reply is its refusal. The second file is not reached, and sound inputs fail nothing, whether it is there or not.
pub record IsRefusedFirst {C : Type 0} (judging : Judging C) (files : Files) (rows : Rows) (first : File) (one : List ℕ) : Type 0 where
  pub reply : (status : Status) (text : List ℕ) (taken : ℕ) → is_aborted status ≡ false → Replies (Some files) rows status text taken → judging.IsRefused one status text
  pub reached : (file : File) → Reached (Some files) rows file → file ≡ first
  pub no_fault : AllThere (Some files) rows
