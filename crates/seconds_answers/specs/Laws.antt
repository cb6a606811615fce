-- Laws of `seconds`.
use Rattle.std.specs.Prelude.{◌≡◌, ℕ, List, Some, ⊤}
use Rattle.evidence_answers.specs.Accepting.{AcceptsText}
use Rattle.evidence_answers.specs.Confirmed.{confirm_rows}
use Rattle.tml_io.specs.Files.{Files, held}
use Rattle.runs.specs.Replies.{Replies}
use Rattle.runs.specs.declared.status.Status.{Status}
use Rattle.runs.specs.declared.status.Status.TheVariants.{Clash, Done}
use Rattle.seconds_answers.specs.Seconds.{seconds_rows}

-- a placing is printed, or a cycle
abbrev pub PrintsSeconds : Status → Type 0
PrintsSeconds Done = ⊤
PrintsSeconds Clash = ⊤
PrintsSeconds status = ⊥

-- where a run printed a placing or a cycle of the document in one file, and another file holds what it printed, `confirm` accepts it
abbrev pub SecondsAreConfirmed : Type 0
SecondsAreConfirmed = (files : Files) (name other text : List ℕ) (status : Status) (taken : ℕ)
    → PrintsSeconds status → Replies (Some files) (seconds_rows name) status text taken
    → held files other ≡ Some text → AcceptsText files (confirm_rows name other) text
