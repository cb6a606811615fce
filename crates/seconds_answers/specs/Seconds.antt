-- The command `seconds`: a placing of a document in whole seconds, or a cycle that shows that there is none.
use Rattle.std.specs.Prelude.{◌≡◌, ◌⊎◌, ℕ, ℤ, List, [], ◌∷◌, codes}
use Rattle.answers.specs.Documents.{Contents, document_rows}
use Rattle.seconds_build.specs.Built.{IsTimedOf}
use Rattle.seconds_core.specs.Evidence.{Placed, Cycle}
use Rattle.seconds_core.specs.Placed.{HasPlacing, IsPlaced}
use Rattle.seconds_core.specs.Timed.{PlainTimed}
use Rattle.seconds_core.specs.declared.line.Line.{Line}
use Rattle.seconds_format.specs.Texts.{IsSecondsText}
use Rattle.runs.specs.Rows.{Freedom, Rows}
use Rattle.runs.specs.declared.status.Status.{Status}
use Rattle.runs.specs.declared.status.Status.TheVariants.{Clash, Done}
use Rattle.seconds_search.specs.Decided.{IsShortCycle}
use Rattle.answers.specs.Commands.{Command, command, of_document}

-- the text is that of a placing
abbrev pub ShowsPlacing : PlainTimed → List ℕ → Type 0
ShowsPlacing timed text = (seconds : List ℤ) × IsPlaced timed seconds × IsSecondsText (Placed seconds) text

-- there is no placing, and the text is that of a negative cycle
abbrev pub ShowsCycle : PlainTimed → List ℕ → Type 0
ShowsCycle timed text = (HasPlacing timed → ⊥) × (lines : List Line) × IsShortCycle timed lines × IsSecondsText (Cycle lines) text

-- a placing is printed, or a cycle that shows that there is none
abbrev pub OfTimed : PlainTimed → Status → List ℕ → Type 0
OfTimed timed Done text = ShowsPlacing timed text
OfTimed timed Clash text = ShowsCycle timed text
OfTimed timed other text = ⊥

-- the same of the net of a document, with the limits of its intervals
abbrev pub OfSeconds : Contents
OfSeconds contents status text = (timed : PlainTimed) × IsTimedOf contents timed × OfTimed timed status text

-- the rows of `seconds NAME`
abbrev pub seconds_rows : List ℕ → Rows
seconds_rows name = document_rows OfSeconds name

-- which placing is printed, or which cycle, is free
abbrev pub SecondsAreFree : Freedom
SecondsAreFree contents status = (status ≡ Done) ⊎ (status ≡ Clash)

-- the command
abbrev pub seconds : Command
seconds = command (codes "seconds") (codes "DOC" ∷ []) (of_document (λ more. OfSeconds) (λ more. SecondsAreFree))
