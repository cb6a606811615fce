-- The command `possible`: which base relations two intervals of a document can have, each with the least timeline that shows it.
use Rattle.std.specs.Prelude.{◌≡◌, ◌⊎◌, ℕ, List, ◌++◌, codes, length, [], ◌∷◌}
use Rattle.std.specs.List.{flat_map}
use Rattle.answers.specs.Documents.{Contents, document_rows}
use Rattle.answers.specs.Lines.{numbered}
use Rattle.answers.specs.Names.{NamesNone, NamesOne}
use Rattle.evidence_format.specs.Written.{timeline_bytes}
use Rattle.net_answers.specs.Nets.{ClashIsFree, NetAnswers, of_net}
use Rattle.net_core.specs.Fits.{Fits}
use Rattle.net_core.specs.Nets.{points}
use Rattle.net_core.specs.Ranks.{pairs_of}
use Rattle.net_core.specs.Rels.{rel_text}
use Rattle.order_closure.specs.Tables.{Keeps, Table}
use Rattle.tml_possible.specs.Possible.{AreShown}
use Rattle.tml_possible.specs.declared.timelines.PossibleItem.{PossibleItem}
use Rattle.tml_refs.specs.Documents.{IsNamed, PlainDocument}
use Rattle.runs.specs.Rows.{Rows}
use Rattle.runs.specs.declared.status.Status.TheVariants.{Done, UnknownName}
use Rattle.answers.specs.Commands.{Command, argument, command, of_document}

-- the lines of an item: its relation, and its timeline as evidence has it
abbrev pub item_lines : PossibleItem → List ℕ
item_lines item = codes "relation " ++ rel_text item.rel ++ codes "\n" ++ timeline_bytes (pairs_of item.ranks)

-- how many items there are, and the lines of each
abbrev pub items_text : List PossibleItem → List ℕ
items_text items = numbered (codes "possible ") (length items) ++ flat_map item_lines items

-- what is answered of two intervals by their numbers: an item for each base relation that some timeline which fits has between them, with the least such timeline
abbrev pub of_intervals : ℕ → ℕ → NetAnswers
of_intervals a b contents net Done text = (items : List PossibleItem) × AreShown (points net) (Fits net) a b items × (text ≡ items_text items)
of_intervals a b contents net other text = ⊥

-- the first of the words X and Y that names no interval
abbrev pub ReportsUnknownName : PlainDocument → List ℕ → List ℕ → List ℕ → Type 0
ReportsUnknownName contents x y text =
    (NamesNone contents x × (text ≡ codes "unknown X\n")) ⊎ (NamesOne contents x × NamesNone contents y × (text ≡ codes "unknown Y\n"))

-- `possible` reports the first word that names no interval, or answers what is asked
abbrev pub OfPossible : List ℕ → List ℕ → Contents
OfPossible x y contents status text =
    ((status ≡ UnknownName) × ReportsUnknownName contents x y text)
    ⊎ ((a : ℕ) × (b : ℕ) × IsNamed contents.intervals x a × IsNamed contents.intervals y b × of_net (of_intervals a b) contents status text)

-- the rows of `possible NAME X Y`
abbrev pub possible_rows : List ℕ → List ℕ → List ℕ → Rows
possible_rows name x y = document_rows (OfPossible x y) name

-- the text is that of the items of a table
abbrev pub IsItemsText : Table → ℕ → ℕ → List ℕ → Type 0
IsItemsText table a b text = (items : List PossibleItem) × AreShown table.points (Keeps table) a b items × (text ≡ items_text items)

-- the command
abbrev pub possible : Command
possible = command (codes "possible") (codes "DOC" ∷ codes "X" ∷ codes "Y" ∷ []) (of_document (λ more. OfPossible (argument more 0) (argument more 1)) (λ more. ClashIsFree))
