-- What is known of a file that was read, of a reply and the files that were read for it, and of what was written.
use Rattle.std.specs.Prelude.{◌≡◌, true, ℕ, ◌+◌, ◌*◌, ◌≤◌, List, [], ◌∷◌, length, IfErr}
use Rattle.std.specs.declared.result.Result.{Result}
use Rattle.tml_io.specs.Faults.{CallsFollow, HasRisen, RisesAtMost}
use Rattle.tml_io.specs.Files.{CountsTaken, IsThere, StartsSince}
use Rattle.tml_io.specs.Known.{KnownInputs}
use Rattle.runs.specs.declared.reply.Reply.{Reply}
use Rattle.runs.specs.declared.status.Status.{Status}
use Rattle.runs.specs.declared.status.Status.TheVariants.{ReadFault}
use Rattle.runs.specs.Reading.{AllThere, AreStarted, NoneReached}
use Rattle.runs.specs.Replies.{Replies}
use Rattle.runs.specs.Rows.{File, Rows}
use Rattle.runs.specs.View.{HasReadFile, status_of}

-- how many calls reading files of these lengths takes at most: each is started, and read byte by byte up to its end
abbrev pub calls_for : List ℕ → ℕ
calls_for [] = 0
calls_for (limit ∷ rest) = limit + 2 + calls_for rest

-- Files of at most these lengths were read: they stay as they are known, no count of faults falls, and no more calls read them than their lengths require, nor more than two for each file besides one for each byte that was taken.
pub record AreRead (limits : List ℕ) (old new : KnownInputs) : Type 0 where
  pub files : new.files ≡ old.files
  pub sound : new.sound ≡ old.sound
  pub faults : old.faults ≤ new.faults
  pub calls : RisesAtMost (calls_for limits) old.calls new.calls
  pub follows : CallsFollow (2 * length limits) old.given new.given old.calls new.calls

-- A file was read whole, or a reply says why it was not. That a device failed is said only if the count of faults rose, and sound inputs fail nothing if the file is there.
pub record IsRead (file : File) (result : Result (List ℕ) Reply) (old new : KnownInputs) : Type 0 where
  pub gives : CountsTaken old.given new.given (HasReadFile old.files file result)
  pub started : StartsSince old.started new.started (file.name ∷ [])
  pub fault : IfErr result (λ reply. status_of reply ≡ ReadFault → HasRisen old.faults new.faults)
  pub no_fault : old.sound ≡ true → IsThere old.files file.name → new.faults ≡ old.faults
  pub read : AreRead (file.limit ∷ []) old new

-- This is a reply that belongs to the rows, the bytes of the files that were read for it were taken, and no other files were started than those that are reached one after another, each once. A fault of reading is the reply only if the count of faults rose, sound inputs fail nothing if all files that are reached are there, and inputs are the same as before if none is reached.
pub record IsReplyTo {S : Type 0} (known : S → KnownInputs) (rows : Rows) (limits : List ℕ) (old new : S) (status : Status) (text : List ℕ) : Type 0 where
  pub replies : CountsTaken (known old).given (known new).given (Replies (known old).files rows status text)
  pub started : (names : List (List ℕ)) × StartsSince (known old).started (known new).started names × AreStarted (known old).files rows names
  pub fault : status ≡ ReadFault → HasRisen (known old).faults (known new).faults
  pub no_fault : (known old).sound ≡ true → AllThere (known old).files rows → (known new).faults ≡ (known old).faults
  pub untouched : NoneReached (known old).files rows → new ≡ old
  pub read : AreRead limits (known old) (known new)
