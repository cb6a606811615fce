-- The plain values that the types of a run stand for.
use Rattle.std.specs.Prelude.{◌≡◌, ℕ, List, [], length, Ok, Err}
use Rattle.std.specs.declared.option.Option.{Option}
use Rattle.std.specs.declared.result.Result.{Result}
use Rattle.tml_io.specs.Files.{Files}
use Rattle.runs.specs.declared.answer.Answer.{Answer}
use Rattle.runs.specs.declared.answer.Finding.{Finding}
use Rattle.runs.specs.declared.answer.Finding.TheVariants as findings
use Rattle.runs.specs.declared.reply.Reply.{Reply}
use Rattle.runs.specs.declared.reply.Reply.TheVariants as replies
use Rattle.runs.specs.declared.status.Status.{Status}
use Rattle.runs.specs.declared.status.Status.TheVariants.{Done, DocFault, Clash, Usage, ReadFault, NoMemory, EvidenceFault, UnknownName, TooLong}
use Rattle.runs.specs.Reading.{ReadsWhole}
use Rattle.runs.specs.Replies.{CannotRead, read_fault}
use Rattle.runs.specs.Rows.{File}

-- the status of a finding
abbrev pub finding_status : Finding → Status
finding_status findings.Done = Done
finding_status findings.DocFault = DocFault
finding_status findings.Clash = Clash
finding_status findings.EvidenceFault = EvidenceFault
finding_status findings.UnknownName = UnknownName

-- the status and the text of a reply
abbrev pub status_of : Reply → Status
status_of (replies.Answered answer) = finding_status answer.finding
status_of (replies.Usage text) = Usage
status_of replies.ReadFault = ReadFault
status_of (replies.TooLong line) = TooLong
status_of replies.NoMemory = NoMemory

abbrev pub text_of : Reply → List ℕ
text_of (replies.Answered answer) = answer.text.items
text_of (replies.Usage text) = text.now
text_of replies.ReadFault = read_fault
text_of (replies.TooLong line) = line.now
text_of replies.NoMemory = []

-- the answer, or out of memory
abbrev pub reply_of : {E : Type 0} → Result Answer E → Reply
reply_of (Ok answer) = replies.Answered answer
reply_of (Err e) = replies.NoMemory

-- a file was read whole, or the reply says why it was not, with the number of its bytes that were taken
abbrev pub HasReadFile : Option Files → File → Result (List ℕ) Reply → ℕ → Type 0
HasReadFile known file (Ok bytes) taken = ReadsWhole known file bytes × (taken ≡ length bytes)
HasReadFile known file (Err reply) taken = CannotRead known file (status_of reply) (text_of reply) taken
