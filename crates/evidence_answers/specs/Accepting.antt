-- Two runs: a command accepts the text that a file holds.
use Rattle.std.specs.Prelude.{◌≡◌, ◌≤◌, false, ℕ, List, length, Some}
use Rattle.net_core.specs.Limits.{max_evidence}
use Rattle.tml_io.specs.Files.{Files}
use Rattle.runs.specs.OneReply.{is_aborted}
use Rattle.runs.specs.Replies.{Replies}
use Rattle.runs.specs.Rows.{Rows}
use Rattle.runs.specs.declared.status.Status.{Status}
use Rattle.runs.specs.declared.status.Status.TheVariants.{Done}

-- a text is short enough to be read as evidence, Done is a reply to the command that reads it, and every other one is aborted
pub record AcceptsText (files : Files) (rows : Rows) (text : List ℕ) : Type 0 where
  pub short : length text ≤ max_evidence
  pub done : (line : List ℕ) × (taken : ℕ) × Replies (Some files) rows Done line taken
  pub reply : (status : Status) (line : List ℕ) (taken : ℕ) → is_aborted status ≡ false → Replies (Some files) rows status line taken → status ≡ Done
