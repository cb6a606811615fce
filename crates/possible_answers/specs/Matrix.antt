-- The command `matrix`: which base relations each two intervals of a document can have.
use Rattle.std.specs.Prelude.{◌≡◌, ℕ, ◌+◌, ◌-◌, ◌*◌, ◌<◌, Bool, List, ◌++◌, codes, [], ◌∷◌}
use Rattle.std.specs.List.{filter, flat_map, range_with_len}
use Rattle.answers.specs.Documents.{document_rows}
use Rattle.answers.specs.Lines.{name_at}
use Rattle.net_answers.specs.Nets.{ClashIsFree, NetAnswers, of_net}
use Rattle.net_core.specs.BaseRelations.{base_rels}
use Rattle.net_core.specs.Entailment.{AreIntervals}
use Rattle.net_core.specs.Nets.{PlainNet, intervals}
use Rattle.net_core.specs.Rels.{rel_text}
use Rattle.net_core.specs.declared.rels.Rel.{Rel}
use Rattle.order_closure.specs.Tables.{Table}
use Rattle.tml_possible.specs.Possible.{CanBe, CanHold, Tells}
use Rattle.tml_refs.specs.Documents.{PlainInterval}
use Rattle.runs.specs.Rows.{Rows}
use Rattle.runs.specs.declared.status.Status.TheVariants.{Done}
use Rattle.answers.specs.Commands.{Command, command, of_document}

-- a test of a relation between two intervals, by their numbers
abbrev pub RelTest : Type 0
RelTest = ℕ → Rel → ℕ → Bool

-- a test tells which base relations can be between intervals of the net
abbrev pub TellsNet : PlainNet → RelTest → Type 0
TellsNet net can = (a b : ℕ) → AreIntervals net a b → Tells (λ r. can a r b) (λ r. CanBe net a r b)

-- a space, and the text of a relation
abbrev pub rel_word : Rel → List ℕ
rel_word r = codes " " ++ rel_text r

-- the base relations that pass a test, in their order, and the end of the line
abbrev pub words_of : (Rel → Bool) → List ℕ
words_of test = flat_map rel_word (filter test base_rels) ++ codes "\n"

-- the line of two intervals: their names, and the relations that can be between them
abbrev pub pair_line : List PlainInterval → RelTest → ℕ → ℕ → List ℕ
pair_line intervals can a b = name_at intervals a ++ codes " " ++ name_at intervals b ++ words_of (λ r. can a r b)

-- the lines of interval a and each one from number b on, of n
abbrev pub lines_from : List PlainInterval → ℕ → RelTest → ℕ → ℕ → List ℕ
lines_from intervals n can a b = flat_map (pair_line intervals can a) (range_with_len b (n - b))

-- the lines of each interval from number a on and those after it
abbrev pub matrix_lines : List PlainInterval → ℕ → RelTest → ℕ → List ℕ
matrix_lines intervals n can a = flat_map (λ i. lines_from intervals n can i (i + 1)) (range_with_len a (n - a))

-- `matrix` prints a line for each interval and each one after it
abbrev pub OfMatrix : NetAnswers
OfMatrix contents net Done text = (can : RelTest) × TellsNet net can × (text ≡ matrix_lines contents.intervals (intervals net) can 0)
OfMatrix contents net other text = ⊥

-- the rows of `matrix NAME`
abbrev pub matrix_rows : List ℕ → Rows
matrix_rows name = document_rows (of_net OfMatrix) name

-- a test tells which base relations can hold between intervals by a table
abbrev pub TellsTable : Table → RelTest → Type 0
TellsTable table can = (a b : ℕ) → 2 * a + 1 < table.points → 2 * b + 1 < table.points → Tells (λ r. can a r b) (λ r. CanHold table a r b)

-- the command
abbrev pub matrix : Command
matrix = command (codes "matrix") (codes "DOC" ∷ []) (of_document (λ more. of_net OfMatrix) (λ more. ClashIsFree))
