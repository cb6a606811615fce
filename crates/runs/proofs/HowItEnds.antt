-- How a command ends, by what was read.
use Rattle.std.proofs.Common.{◌≡◌, ◌↔◌, sym, subst, ◌∙◌, ℕ, ◌+◌, List, Option, refl, inl, inr, arith}
use Rattle.tml_io.specs.Files.{Files, saturating_sum}
use Rattle.tml_io.specs.Known.{KnownInputs, KnownSink}
use Rattle.runs.specs.declared.status.Status.{Status}
use Rattle.runs.specs.declared.status.Status.TheVariants.{Usage, WriteFault}
use Rattle.runs.specs.Rows.{File, Rows, answers, reads}
use Rattle.runs.specs.Reading.{AreFirstContents, total_length}
use Rattle.runs.specs.Outcome.{IsDelivered, Outcome, before_writing}
use Rattle.runs.specs.Replied.{IsReplyTo}
use Rattle.runs.specs.Replies.{Replies, CannotRead}

-- the answer comes after what was read
pub answered : (known : Option Files) (rows : Rows) (contents : List (List ℕ)) (status : Status) (text : List ℕ) (taken : ℕ)
    → AreFirstContents known rows contents → rows contents (answers status text) → taken ≡ total_length contents → Replies known rows status text taken
answered known rows contents status text taken reading next e = record { contents = contents; reading = reading; part = 0; ends = inl (next, refl); bytes = omega arith }

-- counts that were taken one after another are taken together
pub counted_on : (before middle now m n : ℕ) → middle ≡ saturating_sum before m → now ≡ saturating_sum middle n → now ≡ saturating_sum before (m + n)
counted_on before middle now m n h k = omega (arith, h, k)

-- the next file ends the command
pub stopped : (known : Option Files) (rows : Rows) (contents : List (List ℕ)) (file : File) (status : Status) (text : List ℕ) (part taken : ℕ)
    → AreFirstContents known rows contents → rows contents (reads file) → CannotRead known file status text part → taken ≡ total_length contents + part → Replies known rows status text taken
stopped known rows contents file status text part taken reading next h e = record { contents = contents; reading = reading; part = part; ends = inr (inl (file, next, h)); bytes = e }

-- writing makes no status Usage, and changes none from it
pub ends_as_usage : (result status : Status) → before_writing result ≡ status → (result ≡ Usage) ↔ (status ≡ Usage)
ends_as_usage WriteFault status e = (λ h. cc, λ h. cc)
ends_as_usage result status e = (λ h. sym e ∙ h, λ h. e ∙ h)

-- a reply that was written is the outcome of a run
pub delivered : {I S : Type 0} (inputs : I → KnownInputs) (sink : S → KnownSink) (rows : Rows) (limits : List ℕ) (old new : I) (before after : S) (status result : Status) (text : List ℕ)
    → before_writing result ≡ status → IsReplyTo inputs rows limits old new status text → IsDelivered sink text before after result → Outcome inputs sink rows limits old new before after result
delivered inputs sink rows limits old new before after status result text is reply written =
    record { text = text; reply = subst (λ (s : Status). IsReplyTo inputs rows limits old new s text) (sym is) reply; delivered = written }
