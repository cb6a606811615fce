-- Commands that read one document: its first fault is answered, or what it says decides.
use Rattle.std.specs.Prelude.{◌≡◌, ◌⊎◌, ℕ, List, codes}
use Rattle.net_core.specs.Limits.{max_document}
use Rattle.tml_accept.specs.Acceptance.{FirstFault, Says}
use Rattle.tml_refs.specs.Documents.{PlainDocument}
use Rattle.runs.specs.declared.status.Status.{Status}
use Rattle.runs.specs.declared.status.Status.TheVariants.{DocFault}
use Rattle.runs.specs.OneFile.{Answers, of_one_file}
use Rattle.runs.specs.Rows.{File, Rows}
use Rattle.answers.specs.Lines.{HasFaultLine}

-- the file of a name that is read as a document
abbrev pub doc_file : List ℕ → File
doc_file name = record { name = name; word = codes "DOC"; limit = max_document }

-- the document is refused by the line of its first fault
abbrev pub IsDocumentRefused : List ℕ → Status → List ℕ → Type 0
IsDocumentRefused doc status text = (status ≡ DocFault) × HasFaultLine (FirstFault doc) text

-- the answers to what an accepted document says
abbrev pub Contents : Type 1
Contents = PlainDocument → Status → List ℕ → Type 0

-- the document is refused, or its contents are answered
abbrev pub of_contents : Contents → Answers
of_contents Of doc status text = IsDocumentRefused doc status text ⊎ ((contents : PlainDocument) × Says doc contents × Of contents status text)

-- the rows of a command that is asked of the document of this name
abbrev pub document_rows : Contents → List ℕ → Rows
document_rows Of name = of_one_file (doc_file name) (of_contents Of)

-- of which document the text of an answer is not determined, by its contents
abbrev pub of_its_contents : (PlainDocument → Status → Type 0) → List ℕ → Status → Type 0
of_its_contents IsFree doc status = (contents : PlainDocument) × Says doc contents × IsFree contents status
