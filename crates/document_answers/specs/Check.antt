-- The command `check`: whether a document is well annotated.
use Rattle.std.specs.Prelude.{◌≡◌, ℕ, ◌+◌, List, [], ◌∷◌, ◌++◌, codes}
use Rattle.answers.specs.Documents.{Contents, document_rows}
use Rattle.answers.specs.Lines.{line_prefix, link_line, numbered}
use Rattle.tml_refs.specs.Documents.{PlainDocument, PlainInterval, interval_name}
use Rattle.tml_refs.specs.declared.document.Counts.{Counts}
use Rattle.tml_refs.specs.declared.document.DocLink.{DocLink}
use Rattle.runs.specs.Rows.{NeverFree, Rows}
use Rattle.runs.specs.declared.status.Status.TheVariants.{Done}
use Rattle.answers.specs.Commands.{Command, command, of_document}

-- how many tags of each kind a document has
abbrev pub count_lines : Counts → List ℕ
count_lines counts = numbered (codes "events ") counts.events
    ++ numbered (codes "instances ") counts.instances
    ++ numbered (codes "timex ") counts.timex
    ++ numbered (codes "signals ") counts.signals
    ++ numbered (codes "tlinks ") counts.tlinks
    ++ numbered (codes "alinks ") counts.alinks
    ++ numbered (codes "slinks ") counts.slinks

abbrev pub interval_line : ℕ → PlainInterval → List ℕ
interval_line i interval = line_prefix (codes "interval ") i ++ interval_name interval ++ codes "\n"

-- a line for each interval, numbered from the first number on
abbrev pub interval_lines : ℕ → List PlainInterval → List ℕ
interval_lines i [] = []
interval_lines i (interval ∷ intervals) = interval_line i interval ++ interval_lines (i + 1) intervals

-- a line for each link, numbered from the first number on
abbrev pub link_lines : List PlainInterval → ℕ → List DocLink → List ℕ
link_lines intervals k [] = []
link_lines intervals k (link ∷ links) = link_line intervals k link ++ link_lines intervals (k + 1) links

-- what an accepted document has: how many tags of each kind, its intervals and its links
abbrev pub accepted : PlainDocument → List ℕ
accepted doc = codes "accepted\n" ++ count_lines doc.counts ++ interval_lines 0 doc.intervals ++ link_lines doc.intervals 0 doc.links

-- `check` prints what the document has
abbrev pub OfCheck : Contents
OfCheck contents Done text = text ≡ accepted contents
OfCheck contents other text = ⊥

-- the rows of `check NAME`
abbrev pub check_rows : List ℕ → Rows
check_rows name = document_rows OfCheck name

-- the command
abbrev pub check : Command
check = command (codes "check") (codes "DOC" ∷ []) (of_document (λ more. OfCheck) (λ more. NeverFree))
