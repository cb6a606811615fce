-- The command `confirm`: whether a placing or a cycle of a document is one.
use Rattle.std.specs.Prelude.{◌≡◌, ◌⊎◌, ℕ, List, codes, [], ◌∷◌}
use Rattle.answers.specs.Judged.{Judgements, judged_rows}
use Rattle.answers.specs.Lines.{numbered}
use Rattle.net_core.specs.Limits.{max_document, max_evidence}
use Rattle.seconds_build.specs.Built.{IsTimedOf}
use Rattle.seconds_check.specs.Confirmed.{IsConfirmed}
use Rattle.seconds_check.specs.Refusals.{AreSecondsRefused}
use Rattle.seconds_check.specs.declared.refusal.SecondsReason.{SecondsReason}
use Rattle.seconds_core.specs.Evidence.{PlainSeconds}
use Rattle.seconds_core.specs.Timed.{PlainTimed}
use Rattle.seconds_format.specs.Begun.{IsBadSecondsLine}
use Rattle.seconds_format.specs.Texts.{IsSecondsText}
use Rattle.runs.specs.Rows.{File, NeverFree, Rows}
use Rattle.runs.specs.declared.status.Status.{Status}
use Rattle.runs.specs.declared.status.Status.TheVariants.{Done, EvidenceFault}
use Rattle.evidence_answers.specs.ConfirmTexts.{seconds_claim_line, seconds_refusal_line}
use Rattle.answers.specs.Commands.{Command, argument, command, of_files}

-- the file of a name that is read as a placing or a cycle
abbrev pub seconds_file : List ℕ → File
seconds_file name = record { name = name; word = codes "SECONDS"; limit = max_evidence }

-- the bytes are the text of a placing that is one, or of a negative cycle that is one, and the text says which
abbrev pub ReportsClaim : PlainTimed → List ℕ → List ℕ → Type 0
ReportsClaim timed bytes text = (e : PlainSeconds) × IsSecondsText e bytes × IsConfirmed timed e × (text ≡ seconds_claim_line e)

-- the bytes are the text of neither, and the bad line is reported
abbrev pub ReportsBadLine : List ℕ → List ℕ → Type 0
ReportsBadLine bytes text = ((e : PlainSeconds) → IsSecondsText e bytes → ⊥) × (line : ℕ) × IsBadSecondsLine bytes line × (text ≡ numbered (codes "evidence line ") line)

-- the bytes are the text of a placing or a cycle that is refused, and the first reason is reported
abbrev pub ReportsSecondsRefusal : PlainTimed → List ℕ → List ℕ → Type 0
ReportsSecondsRefusal timed bytes text = (e : PlainSeconds) × (reason : SecondsReason) × IsSecondsText e bytes × AreSecondsRefused timed e reason × (text ≡ seconds_refusal_line reason)

abbrev pub OfText : PlainTimed → List ℕ → Status → List ℕ → Type 0
OfText timed bytes Done text = ReportsClaim timed bytes text
OfText timed bytes EvidenceFault text = ReportsBadLine bytes text ⊎ ReportsSecondsRefusal timed bytes text
OfText timed bytes other text = ⊥

-- the answer to a text, by the net of an accepted document with the limits of its intervals
abbrev pub OfConfirm : Judgements
OfConfirm contents bytes status text = (timed : PlainTimed) × IsTimedOf contents timed × OfText timed bytes status text

-- the rows of `confirm NAME SECONDS`
abbrev pub confirm_rows : List ℕ → List ℕ → Rows
confirm_rows name seconds = judged_rows name (seconds_file seconds) OfConfirm

-- the command
abbrev pub confirm : Command
confirm = command (codes "confirm") (codes "DOC" ∷ codes "SECONDS" ∷ []) (of_files (max_document ∷ max_evidence ∷ []) (λ given. confirm_rows (argument given 0) (argument given 1)) NeverFree)
