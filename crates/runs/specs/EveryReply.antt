-- Laws of rows: where something comes next there is a reply, and only one.
use Rattle.std.specs.Prelude.{◌≡◌, false, ℕ, List, None, Some}
use Rattle.tml_io.specs.Files.{Files}
use Rattle.runs.specs.declared.status.Status.{Status}
use Rattle.runs.specs.Rows.{Next, Rows}
use Rattle.runs.specs.OneReply.{OneReply, is_aborted}
use Rattle.runs.specs.Reading.{AllThere, AreFirstContents}
use Rattle.runs.specs.Replies.{Replies}

-- after any contents that can be read, each within the limit of its file, something comes next: a file is read, or a status is answered with a text
abbrev pub HasNext : Rows → Type 0
HasNext rows = (contents : List (List ℕ)) → AreFirstContents None rows contents → (next : Next) × rows contents next

-- Over these files there is exactly one reply that is not aborted: each other one has its status and its number of bytes, and its text where the contents determine it.
pub record ExactlyOneReply (files : Files) (rows : Rows) : Type 0 where
  pub status : Status
  pub text : List ℕ
  pub taken : ℕ
  pub whole : is_aborted status ≡ false
  pub replies : Replies (Some files) rows status text taken
  pub only : (other : Status) (line : List ℕ) (count : ℕ) → is_aborted other ≡ false → Replies (Some files) rows other line count → OneReply files rows status other text line taken count

-- so it is wherever all files that are reached are there
abbrev pub HasExactlyOneReply : Rows → Type 0
HasExactlyOneReply rows = (files : Files) → AllThere (Some files) rows → ExactlyOneReply files rows
