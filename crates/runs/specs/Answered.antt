-- What the rows of a program have, so that each question has one answer.
use Rattle.std.specs.Prelude.{◌≡◌, ◌<◌, ℕ, false, List, length}
use Rattle.runs.specs.declared.status.Status.{Status}
use Rattle.runs.specs.EveryReply.{HasNext}
use Rattle.runs.specs.OneReply.{HasOneNext, HasOneText, is_aborted}
use Rattle.runs.specs.Rows.{File, Freedom, Rows, answers, reads}

-- After what was read one thing comes next, and something does; at most this number of files are read; no answer is aborted; and an answer has one text if it is not free.
pub record AreAnswered (rows : Rows) (IsFree : Freedom) : Type 0 where
  pub one_next : HasOneNext rows
  pub next : HasNext rows
  pub most : ℕ
  pub few : (contents : List (List ℕ)) (file : File) → rows contents (reads file) → length contents < most
  pub whole : (contents : List (List ℕ)) (status : Status) (text : List ℕ) → rows contents (answers status text) → is_aborted status ≡ false
  pub one_text : (contents : List (List ℕ)) (status : Status) → (IsFree contents status → ⊥) → HasOneText rows contents status
