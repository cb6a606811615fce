-- Laws of rows: what a file that is not there leaves to be answered, and where a fault of reading is answered.
use Rattle.std.specs.Prelude.{◌≡◌, true, ℕ, List, Some}
use Rattle.std.specs.declared.option.Option.{Option}
use Rattle.tml_io.specs.Files.{Files, IsThere}
use Rattle.runs.specs.declared.status.Status.{Status}
use Rattle.runs.specs.declared.status.Status.TheVariants.{ReadFault}
use Rattle.runs.specs.OneReply.{is_aborted}
use Rattle.runs.specs.Reading.{Reached}
use Rattle.runs.specs.Replies.{Replies}
use Rattle.runs.specs.Rows.{File, Rows}

-- where a file that is reached is not there, each reply is aborted: a fault of reading, or out of memory
abbrev pub MissingBreaksOff : Rows → Type 0
MissingBreaksOff rows = (files : Files) (file : File) (status : Status) (text : List ℕ) (taken : ℕ)
    → Reached (Some files) rows file → (IsThere (Some files) file.name → ⊥) → Replies (Some files) rows status text taken → is_aborted status ≡ true

-- a fault of reading is a reply only where a file is reached
abbrev pub ReadFaultHasFile : Rows → Type 0
ReadFaultHasFile rows = (known : Option Files) (text : List ℕ) (taken : ℕ) → Replies known rows ReadFault text taken → (file : File) × Reached known rows file
