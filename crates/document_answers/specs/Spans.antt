-- The command `spans`: the units of a document.
use Rattle.std.specs.Prelude.{◌≡◌, ℕ, List, ◌++◌, codes, decimal, [], ◌∷◌}
use Rattle.std.specs.List.{flat_map}
use Rattle.answers.specs.Documents.{doc_file}
use Rattle.answers.specs.Lines.{HasFaultLine}
use Rattle.runs.specs.OneFile.{Answers, of_one_file}
use Rattle.runs.specs.Rows.{NeverFree, Rows}
use Rattle.runs.specs.declared.status.Status.TheVariants.{Done, DocFault}
use Rattle.tml_span.specs.Faults.{CutFault}
use Rattle.tml_span.specs.Units.{Attribute, Kind, PlainUnit, bom, comment, declaration, doctype, empty_tag, end_tag, start_tag, text}
use Rattle.tml_span.specs.Whole.{IsWhole}
use Rattle.answers.specs.Commands.{Command, argument, command, of_files}
use Rattle.net_core.specs.Limits.{max_document}

-- the start and the end of a span, each followed by a space
abbrev pub span_prefix : ℕ → ℕ → List ℕ
span_prefix start end = decimal start ++ codes " " ++ decimal end ++ codes " "

abbrev pub attribute_line : Attribute → List ℕ
attribute_line a = span_prefix a.start a.end ++ codes "attribute " ++ a.name ++ codes "\n"

-- the kind, for tags the name, and then a line for each attribute
abbrev pub kind_word : Kind → List ℕ
kind_word bom = codes "bom\n"
kind_word (declaration bytes) = codes "declaration\n"
kind_word (doctype bytes) = codes "doctype\n"
kind_word (comment bytes) = codes "comment\n"
kind_word (text bytes) = codes "text\n"
kind_word (start_tag name attrs) = codes "start " ++ name ++ codes "\n" ++ flat_map attribute_line attrs
kind_word (end_tag name) = codes "end " ++ name ++ codes "\n"
kind_word (empty_tag name attrs) = codes "empty " ++ name ++ codes "\n" ++ flat_map attribute_line attrs

-- the line of a tag: its span, its kind and its name
abbrev pub tag_line : ℕ → ℕ → List ℕ → List ℕ → List ℕ
tag_line start end kind name = span_prefix start end ++ kind ++ name ++ codes "\n"

abbrev pub unit_lines : PlainUnit → List ℕ
unit_lines u = span_prefix u.start u.end ++ kind_word u.kind

-- a line for each unit, and after that of a start tag one for each attribute
abbrev pub unit_table : List PlainUnit → List ℕ
unit_table units = flat_map unit_lines units

-- the document is cut into units, and this is their table
abbrev pub HasTable : List ℕ → List ℕ → Type 0
HasTable doc table = (units : List PlainUnit) × IsWhole (record { source = doc; units = units }) × (table ≡ unit_table units)

-- `spans` prints the table of the units, or the fault of the cut
abbrev pub OfSpans : Answers
OfSpans doc Done out = HasTable doc out
OfSpans doc DocFault out = HasFaultLine (λ kind place. CutFault doc place kind) out
OfSpans doc other out = ⊥

-- the rows of `spans NAME`
abbrev pub spans_rows : List ℕ → Rows
spans_rows name = of_one_file (doc_file name) OfSpans

-- the command
abbrev pub spans : Command
spans = command (codes "spans") (codes "DOC" ∷ []) (of_files (max_document ∷ []) (λ given. spans_rows (argument given 0)) NeverFree)
