-- The outcome of a run: its status, and what was written of the text of its reply.
use Rattle.std.specs.Prelude.{◌≡◌, ◌⊎◌, ℕ, ◌≤◌, List, length}
use Rattle.std.specs.declared.option.Option.{Option}
use Rattle.std.specs.Io.KnownBytes.{Appends}
use Rattle.tml_io.specs.Faults.{HasRisen, RisesAtMost}
use Rattle.tml_io.specs.Known.{KnownInputs, KnownSink}
use Rattle.tml_io.specs.Room.{FaultsOnlyWhenFull}
use Rattle.tml_io.specs.Whole.{WritesPrefix}
use Rattle.runs.specs.declared.status.Status.{Status}
use Rattle.runs.specs.declared.status.Status.TheVariants.{Done, NoMemory, WriteFault}
use Rattle.runs.specs.Replied.{IsReplyTo}
use Rattle.runs.specs.Rows.{Rows}

-- the sink failed before the text was written whole
abbrev pub IsCutOff : List ℕ → KnownSink → KnownSink → Type 0
IsCutOff text old new = HasRisen old.faults new.faults × WritesPrefix old.written new.written text

-- What was written of a text, by the status of the run: a refusal keeps its status if the sink fails.
abbrev pub Written : Status → List ℕ → KnownSink → KnownSink → Type 0
Written Done text old new = Appends old.written new.written text
Written WriteFault text old new = IsCutOff text old new
Written status text old new = Appends old.written new.written text ⊎ IsCutOff text old new

-- the status of the reply: a fault of the sink changes it only if it is Done
abbrev pub before_writing : Status → Status
before_writing WriteFault = Done
before_writing status = status

-- The text of a reply was written, in at most as many calls as it has bytes. The count of faults does not fall, and rises only once a sink of known room is full. Out of memory the sink is left alone.
pub record IsDelivered {S : Type 0} (known : S → KnownSink) (text : List ℕ) (old new : S) (status : Status) : Type 0 where
  pub written : Written status text (known old) (known new)
  pub calls : RisesAtMost (length text) (known old).calls (known new).calls
  pub faults : (known old).faults ≤ (known new).faults
  pub room : FaultsOnlyWhenFull (known old).room (known new).room (known old).faults (known new).faults
  pub no_memory : status ≡ NoMemory → new ≡ old

-- There is a reply to the rows of a command, and its text was written.
pub record Outcome {I S : Type 0} (inputs : I → KnownInputs) (sink : S → KnownSink) (rows : Rows) (limits : List ℕ) (old new : I) (before after : S) (status : Status) : Type 0 where
  pub text : List ℕ
  pub reply : IsReplyTo inputs rows limits old new (before_writing status) text
  pub delivered : IsDelivered sink text before after status
