-- Laws of rows: where one thing comes next there is one reply.
use Rattle.std.specs.Prelude.{◌≡◌, Bool, true, false, ℕ, List, Some}
use Rattle.tml_io.specs.Files.{Files}
use Rattle.runs.specs.declared.status.Status.{Status}
use Rattle.runs.specs.declared.status.Status.TheVariants.{ReadFault, NoMemory}
use Rattle.runs.specs.Reading.{AreFirstContents}
use Rattle.runs.specs.Rows.{Next, Rows, reads, answers}
use Rattle.runs.specs.Replies.{Replies}

-- the same file is read, or the same status is answered
abbrev pub Agree : Next → Next → Type 0
Agree (reads file) (reads other) = file ≡ other
Agree (answers status text) (answers other line) = status ≡ other
Agree next other = ⊥

-- after any contents one thing comes next: one file, or one status
abbrev pub HasOneNext : Rows → Type 0
HasOneNext rows = (contents : List (List ℕ)) (next other : Next) → rows contents next → rows contents other → Agree next other

-- after these contents one text is answered with a status
abbrev pub HasOneText : Rows → List (List ℕ) → Status → Type 0
HasOneText rows contents status = (text line : List ℕ) → rows contents (answers status text) → rows contents (answers status line) → text ≡ line

-- so it is after all contents that these files give
abbrev pub HasOneTextOf : Files → Rows → Status → Type 0
HasOneTextOf files rows status = (contents : List (List ℕ)) → AreFirstContents (Some files) rows contents → HasOneText rows contents status

-- whether a reply with this status may come at any place, whatever the files hold
abbrev pub is_aborted : Status → Bool
is_aborted ReadFault = true
is_aborted NoMemory = true
is_aborted status = false

-- Over known files there is one reply that is not aborted: one status after one number of bytes, and where the contents determine the text one text.
pub record OneReply (files : Files) (rows : Rows) (status other : Status) (text line : List ℕ) (taken count : ℕ) : Type 0 where
  pub one_status : status ≡ other
  pub one_count : taken ≡ count
  pub one_text : HasOneTextOf files rows status → text ≡ line

abbrev pub HasOneReply : Rows → Type 0
HasOneReply rows = (files : Files) (status other : Status) (text line : List ℕ) (taken count : ℕ)
    → is_aborted status ≡ false → is_aborted other ≡ false
    → Replies (Some files) rows status text taken → Replies (Some files) rows other line count
    → OneReply files rows status other text line taken count
