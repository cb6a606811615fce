-- The command `canon`: the canonical text of a document.
use Rattle.std.specs.Prelude.{◌≡◌, ◌⊎◌, ℕ, List, [], ◌∷◌, codes}
use Rattle.answers.specs.Documents.{IsDocumentRefused, doc_file}
use Rattle.tml_accept.specs.Acceptance.{IsAccepted}
use Rattle.tml_canon.specs.Canonical.{canonical_text}
use Rattle.tml_refs.specs.Documents.{PlainDocument}
use Rattle.runs.specs.OneFile.{Answers, of_one_file}
use Rattle.runs.specs.Rows.{NeverFree, Rows}
use Rattle.runs.specs.declared.status.Status.TheVariants.{Done}
use Rattle.tml_tree.specs.Plain.{PlainNode}
use Rattle.answers.specs.Commands.{Command, argument, command, of_files}
use Rattle.net_core.specs.Limits.{max_document}

-- the document is accepted, and the text is that of its tree
abbrev pub HasCanonicalText : List ℕ → List ℕ → Type 0
HasCanonicalText doc text = (root : PlainNode) × (contents : PlainDocument) × IsAccepted doc root contents × (text ≡ canonical_text root)

-- `canon` prints the canonical text, or the first fault
abbrev pub OfCanon : Answers
OfCanon doc status text = IsDocumentRefused doc status text ⊎ ((status ≡ Done) × HasCanonicalText doc text)

-- the rows of `canon NAME`
abbrev pub canon_rows : List ℕ → Rows
canon_rows name = of_one_file (doc_file name) OfCanon

-- the command
abbrev pub canon : Command
canon = command (codes "canon") (codes "DOC" ∷ []) (of_files (max_document ∷ []) (λ given. canon_rows (argument given 0)) NeverFree)
