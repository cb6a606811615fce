-- Commands that read a document, judge it, and then read another file.
use Rattle.std.specs.Prelude.{◌≡◌, ◌≤◌, ℕ, List, length, Some}
use Rattle.faults.specs.declared.kind.FaultKind.{FaultKind}
use Rattle.net_core.specs.Limits.{max_document}
use Rattle.tml_accept.specs.Acceptance.{FirstFault, Says}
use Rattle.tml_io.specs.Files.{Files, held}
use Rattle.tml_refs.specs.Documents.{PlainDocument}
use Rattle.runs.specs.OneFile.{Answers}
use Rattle.runs.specs.Rows.{File, Freedom, Rows}
use Rattle.runs.specs.TwoFiles.{IsRefusedFirst, Judging, of_both, of_two_files}
use Rattle.runs.specs.declared.status.Status.{Status}
use Rattle.answers.specs.Documents.{IsDocumentRefused, doc_file}

-- the answers to the contents of another file, by what the document says
abbrev pub Judgements : Type 1
Judgements = PlainDocument → Answers

-- a document is accepted and says something, or is refused by the line of its first fault
abbrev pub documents : Judging PlainDocument
documents = record { Says = Says; IsRefused = IsDocumentRefused }

-- the document is read and judged, and where it has no fault the other file is read
abbrev pub judged_rows : List ℕ → File → Judgements → Rows
judged_rows name other Of = of_two_files documents (doc_file name) other Of

-- of which other file the text of an answer is not determined, by what the document says
abbrev pub of_judged : (PlainDocument → List ℕ → Status → Type 0) → Freedom
of_judged IsFree = of_both documents IsFree

-- the law of rows that judge the document of a name first: where it is at fault, the reply is its fault, and the other file is not reached
abbrev pub JudgesFirst : List ℕ → Rows → Type 0
JudgesFirst name rows = (files : Files) (doc : List ℕ) (kind : FaultKind) (place : ℕ)
    → held files name ≡ Some doc → length doc ≤ max_document → FirstFault doc kind place → IsRefusedFirst documents files rows (doc_file name) doc
