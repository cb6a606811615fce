-- The lines that answers print.
use Rattle.std.specs.Prelude.{◌≡◌, ℕ, List, [], ◌++◌, codes, decimal, None, Some}
use Rattle.std.specs.List.{slice_get}
use Rattle.faults.specs.Kinds.{kind_name, number_of}
use Rattle.faults.specs.declared.kind.FaultKind.{FaultKind}
use Rattle.net_core.specs.Rels.{rel_text}
use Rattle.net_core.specs.declared.rels.Rel.{Rel}
use Rattle.tml_refs.specs.Documents.{PlainInterval, interval_name}
use Rattle.tml_refs.specs.declared.document.DocLink.{DocLink}

-- a word and a number
abbrev pub numbered : List ℕ → ℕ → List ℕ
numbered word n = word ++ decimal n ++ codes "\n"

-- a word, a number and a space
abbrev pub line_prefix : List ℕ → ℕ → List ℕ
line_prefix word n = word ++ decimal n ++ codes " "

-- the number of a fault, its name and its place
abbrev pub fault_line : FaultKind → ℕ → List ℕ
fault_line kind place = line_prefix (codes "fault ") (number_of kind) ++ kind_name kind ++ numbered (codes " ") place

-- there is this fault, and the text is its line
abbrev pub HasFaultLine : (FaultKind → ℕ → Type 0) → List ℕ → Type 0
HasFaultLine Fault text = (kind : FaultKind) × (place : ℕ) × Fault kind place × (text ≡ fault_line kind place)

-- the name of the interval of this number
abbrev pub name_at : List PlainInterval → ℕ → List ℕ
name_at intervals i = elim (slice_get intervals i) [ None ↦ [] | Some interval ↦ interval_name interval ]

-- a relation between two names
abbrev pub related : List ℕ → Rel → List ℕ → List ℕ
related a rel b = a ++ codes " " ++ rel_text rel ++ codes " " ++ b

-- the line of a link: its number, and its relation between the names of its intervals
abbrev pub link_line : List PlainInterval → ℕ → DocLink → List ℕ
link_line intervals k link = line_prefix (codes "tlink ") k ++ related (name_at intervals link.a) link.rel (name_at intervals link.b) ++ codes "\n"
