-- The command `drill`: the summary of a drill.
use Rattle.std.specs.Prelude.{◌≡◌, ℕ, ◌≤◌, List, [], ◌++◌, codes, decimal, length, Some, ◌∷◌, is_some}
use Rattle.std.specs.List.{All, Contains}
use Rattle.std.specs.declared.option.Option.{Option}
use Rattle.answers.specs.Lines.{numbered}
use Rattle.derive_rel.specs.declared.all_rows.Row.{Row}
use Rattle.drill.specs.Laws.{drill_numbers}
use Rattle.drill.specs.Texts.{drill_document}
use Rattle.named.specs.Texts.{named_of}
use Rattle.net_answers.specs.Nets.{HasNet}
use Rattle.net_core.specs.Nets.{PlainNet}
use Rattle.runs.specs.Rows.{NeverFree, Rows, answers}
use Rattle.runs.specs.declared.status.Status.{Status}
use Rattle.runs.specs.declared.status.Status.TheVariants.{Done}
use Rattle.order_answers.specs.Relations.{AreRelations}
use Rattle.net_core.specs.Least.{AreLeastRanks}
use Rattle.order_answers.specs.declared.drill_command.Figures.{Figures}
use Rattle.answers.specs.Commands.{Command, argument, command, of_files}

-- the number of a drill by its word, in decimal
unfoldable pub drill_number : List ℕ → Option ℕ
drill_number word = named_of decimal drill_numbers word

-- the greatest of some numbers
abbrev pub IsGreatest : List ℕ → ℕ → Type 0
IsGreatest numbers greatest = Contains numbers greatest × All (λ n. n ≤ greatest) numbers

-- The document of drill n is accepted, and these are its figures: how long it is, how many links it has, the greatest rank of its least timeline, and how many relations follow.
pub record AreFigures (n : ℕ) (figures : Figures) : Type 0 where
  pub net : PlainNet
  pub ranks : List ℕ
  pub rows : List Row
  pub has_net : HasNet (drill_document n) net
  pub least : AreLeastRanks net ranks
  pub follow : AreRelations net rows
  pub drill : figures.drill ≡ n
  pub bytes : figures.bytes ≡ length (drill_document n)
  pub links : figures.links ≡ length net.links
  pub greatest : IsGreatest ranks figures.greatest
  pub relations : figures.relations ≡ length rows

-- a line for each figure
abbrev pub figure_lines : Figures → List ℕ
figure_lines figures =
    numbered (codes "drill ") figures.drill ++ numbered (codes "bytes ") figures.bytes ++ numbered (codes "links ") figures.links
    ++ numbered (codes "greatest ") figures.greatest ++ numbered (codes "relations ") figures.relations

-- the figures of drill n, and that its timeline was verified
abbrev pub IsSummary : ℕ → List ℕ → Type 0
IsSummary n text = (figures : Figures) × AreFigures n figures × (text ≡ figure_lines figures ++ codes "verified timeline\n")

-- the answer to drill n is always that
abbrev pub OfDrill : ℕ → Status → List ℕ → Type 0
OfDrill n Done text = IsSummary n text
OfDrill n other text = ⊥

-- the rows of `drill N`, by the word N: no file is read
abbrev pub drill_rows : List ℕ → Rows
drill_rows word [] (answers status text) = (n : ℕ) × (drill_number word ≡ Some n) × OfDrill n status text
drill_rows word contents next = ⊥

-- the command, which takes the number of a drill
abbrev pub drill : Command
drill = record (command (codes "drill") (codes "N" ∷ []) (of_files [] (λ given. drill_rows (argument given 0)) NeverFree)) { takes = λ given. is_some (drill_number (argument given 0)) }
