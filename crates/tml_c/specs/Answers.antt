-- What a call answers: the reply of a run over its words and files in which no device fails.
use Rattle.std.specs.Prelude.{◌≡◌, ◌≢◌, ◌↔◌, ◌⊎◌, ℕ, List, [], ◌++◌, drop, length, take, None, Some}
use Rattle.tml_c.specs.Given.{two_files}
use Rattle.tml_c.specs.Words.{AreTakenFor, HaveWords}
use Rattle.tml_io.specs.Files.{Files}
use Rattle.runs.specs.Reading.{AllThere}
use Rattle.runs.specs.Replies.{Replies}
use Rattle.runs.specs.Status.{status_number}
use Rattle.runs.specs.declared.status.Status.{Status}
use Rattle.runs.specs.declared.status.Status.TheVariants.{NoMemory, ReadFault, Usage, WriteFault}
use Rattle.tml_tool.specs.Commands.{form_of, rows_of}

-- The reply to some words over known files. It is the usage text exactly where the words have no form. No write fails, and no read of a file that is there.
pub record IsReply (files : Files) (words : List (List ℕ)) (status : Status) (text : List ℕ) : Type 0 where
  pub taken : ℕ
  pub replies : Replies (Some files) (rows_of (form_of words)) status text taken
  pub usage : (status ≡ Usage) ↔ (form_of words ≡ None)
  pub no_write_fault : status ≢ WriteFault
  pub no_read_fault : AllThere (Some files) (rows_of (form_of words)) → status ≢ ReadFault

-- some bytes have words, and there was no memory for these
abbrev pub HasNoRoom : List ℕ → Status → List ℕ → Type 0
HasNoRoom bytes status text = (status ≡ NoMemory) × (text ≡ []) × HaveWords bytes

-- The status and the text that a call answers to the words in some bytes, over two files. Once the words are read, out of memory is a reply to those alone that have a form.
abbrev pub IsCallAnswer : List ℕ → List ℕ → List ℕ → Status → List ℕ → Type 0
IsCallAnswer bytes first second status text =
    HasNoRoom bytes status text
    ⊎ ((words : List (List ℕ)) × AreTakenFor bytes words × IsReply (two_files first second) words status text)

-- a text laid over the bytes of a room: as much of it as there is room for, and then what was there
abbrev pub laid_over : List ℕ → List ℕ → List ℕ
laid_over text room = take (length room) text ++ drop (length text) room

-- What a call leaves: the number of a status, how long its text is, and the text laid over what was in the room for it.
pub record LeavesText (words first second : List ℕ) (number : ℕ) (needed : ℕ) (before now : List ℕ) : Type 0 where
  pub status : Status
  pub text : List ℕ
  pub answers : IsCallAnswer words first second status text
  pub number_is : number ≡ status_number status
  pub needed_is : needed ≡ length text
  pub room_is : now ≡ laid_over text before
