-- What `confirm` says is so.
use Rattle.std.specs.Prelude.{◌≡◌, ℕ, ℤ, List, codes, Some}
use Rattle.seconds_build.specs.Built.{IsTimedOf}
use Rattle.seconds_core.specs.Evidence.{Placed}
use Rattle.seconds_core.specs.Placed.{HasPlacing, IsPlaced}
use Rattle.seconds_core.specs.Timed.{PlainTimed}
use Rattle.seconds_format.specs.Texts.{IsSecondsText}
use Rattle.tml_accept.specs.Acceptance.{Says}
use Rattle.tml_io.specs.Files.{Files, held}
use Rattle.tml_refs.specs.Documents.{PlainDocument}
use Rattle.runs.specs.Replies.{Replies}
use Rattle.runs.specs.declared.status.Status.TheVariants.{Done}
use Rattle.evidence_answers.specs.Confirmed.{confirm_rows}

-- a file holds an accepted document, and this is its net with the limits of its intervals
pub record HoldsTimed (files : Files) (name : List ℕ) (timed : PlainTimed) : Type 0 where
  pub doc : List ℕ
  pub contents : PlainDocument
  pub holds : held files name ≡ Some doc
  pub says : Says doc contents
  pub built : IsTimedOf contents timed

-- a file holds the text of a placing
abbrev pub HoldsPlacing : Files → List ℕ → PlainTimed → Type 0
HoldsPlacing files name timed = (bytes : List ℕ) × (seconds : List ℤ) × (held files name ≡ Some bytes) × IsSecondsText (Placed seconds) bytes × IsPlaced timed seconds

-- where the reply is `confirmed placing`, the other file holds the text of a placing of the document
abbrev pub PlacingIsTrue : Type 0
PlacingIsTrue = (files : Files) (name other : List ℕ) (taken : ℕ) → Replies (Some files) (confirm_rows name other) Done (codes "confirmed placing\n") taken
    → (timed : PlainTimed) × HoldsTimed files name timed × HoldsPlacing files other timed

-- where it is `confirmed cycle`, the document has no placing
abbrev pub CycleIsTrue : Type 0
CycleIsTrue = (files : Files) (name other : List ℕ) (taken : ℕ) → Replies (Some files) (confirm_rows name other) Done (codes "confirmed cycle\n") taken
    → (timed : PlainTimed) × HoldsTimed files name timed × (HasPlacing timed → ⊥)
