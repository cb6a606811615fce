-- A reply: the status and the text that are to be written. It is the answer, or says why there is none.
use Rattle.std.specs.Prelude.{◌≡◌, ◌⊎◌, ℕ, ◌+◌, ◌<◌, ◌≤◌, List, [], ◌++◌, codes, length}
use Rattle.std.specs.declared.option.Option.{Option}
use Rattle.tml_io.specs.Files.{Files, HasContents}
use Rattle.runs.specs.declared.status.Status.{Status}
use Rattle.runs.specs.declared.status.Status.TheVariants.{ReadFault, TooLong, NoMemory}
use Rattle.runs.specs.Rows.{File, Rows, reads, answers}
use Rattle.runs.specs.Reading.{AreFirstContents, total_length}

abbrev pub read_fault : List ℕ
read_fault = codes "read fault\n"

abbrev pub too_long : List ℕ → List ℕ
too_long word = codes "too long " ++ word ++ codes "\n"

-- the file has more bytes than its limit, as far as the files are known
abbrev pub IsTooLong : Option Files → File → Type 0
IsTooLong known file = (bytes : List ℕ) × HasContents known file.name bytes × (file.limit < length bytes)

-- The file cannot be read whole, and this number of its bytes were taken: a device failed, it is too long, or out of memory.
abbrev pub CannotRead : Option Files → File → Status → List ℕ → ℕ → Type 0
CannotRead known file ReadFault text part = (text ≡ read_fault) × (part ≤ file.limit)
CannotRead known file TooLong text part = (text ≡ too_long file.word) × IsTooLong known file × (part ≡ file.limit + 1)
CannotRead known file NoMemory text part = (text ≡ []) × (part ≤ file.limit + 1)
CannotRead known file other text part = ⊥

-- The reply after some contents, with this number of bytes taken of the next file: the answer, that the file cannot be read, or out of memory before it is started.
abbrev pub RepliesAfter : Option Files → Rows → List (List ℕ) → Status → List ℕ → ℕ → Type 0
RepliesAfter known rows contents status text part =
    (rows contents (answers status text) × (part ≡ 0))
    ⊎ ((file : File) × rows contents (reads file) × CannotRead known file status text part)
    ⊎ ((status ≡ NoMemory) × (text ≡ []) × (part ≡ 0))

-- the reply to a command, and how many bytes were taken of all its files
pub record Replies (known : Option Files) (rows : Rows) (status : Status) (text : List ℕ) (taken : ℕ) : Type 0 where
  pub contents : List (List ℕ)
  pub reading : AreFirstContents known rows contents
  pub part : ℕ
  pub ends : RepliesAfter known rows contents status text part
  pub bytes : taken ≡ total_length contents + part
