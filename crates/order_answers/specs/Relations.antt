-- The command `relations`: the relations that follow from a document.
use Rattle.std.specs.Prelude.{◌≡◌, ◌↔◌, ℕ, ◌<◌, List, ◌++◌, codes, [], ◌∷◌}
use Rattle.std.specs.List.{flat_map}
use Rattle.answers.specs.Documents.{document_rows}
use Rattle.answers.specs.Lines.{name_at, related}
use Rattle.clash.specs.Closures.{IsClosureOf}
use Rattle.derive_rel.specs.Entailed.{AreAllRows, AreRows, TableEntails}
use Rattle.derive_rel.specs.declared.all_rows.Row.{Row}
use Rattle.net_answers.specs.Nets.{ClashIsFree, NetAnswers, of_net}
use Rattle.net_core.specs.Entailment.{Follows}
use Rattle.net_core.specs.Nets.{PlainNet, intervals}
use Rattle.net_core.specs.declared.rels.Rel.{Rel}
use Rattle.order_closure.specs.Tables.{Table}
use Rattle.tml_refs.specs.Documents.{PlainDocument}
use Rattle.runs.specs.Rows.{Rows}
use Rattle.runs.specs.declared.status.Status.TheVariants.{Done}
use Rattle.answers.specs.Commands.{Command, command, of_document}

-- a relation holds between an interval and one after it in every timeline that fits
abbrev pub FollowsBetween : PlainNet → Row → Type 0
FollowsBetween net row = (row.a < row.b) × (row.b < intervals net) × Follows net row.a row.rel row.b

-- all relations that follow, each once, in the order of the intervals and of the table of relations
abbrev pub AreRelations : PlainNet → List Row → Type 0
AreRelations net rows = AreAllRows (FollowsBetween net) rows

-- the line of a relation, by the names of its intervals
abbrev pub row_line : PlainDocument → Row → List ℕ
row_line contents row = related (name_at contents.intervals row.a) row.rel (name_at contents.intervals row.b) ++ codes "\n"

-- `relations` prints a line for each relation that follows
abbrev pub OfRelations : NetAnswers
OfRelations contents net Done text = (rows : List Row) × AreRelations net rows × (text ≡ flat_map (row_line contents) rows)
OfRelations contents net other text = ⊥

-- the rows of `relations NAME`
abbrev pub relations_rows : List ℕ → Rows
relations_rows name = document_rows (of_net OfRelations) name

-- a table entails a relation exactly if it follows, and its rows are the relations that follow
pub record EntailsWhatFollows (net : PlainNet) (table : Table) : Type 0 where
  pub relations : (a : ℕ) (r : Rel) (b : ℕ) → a < intervals net → b < intervals net → TableEntails table a r b ↔ Follows net a r b
  pub rows : (rows : List Row) → AreRows table rows ↔ AreRelations net rows

-- the law: so does the closure of a net
abbrev pub ClosuresEntailWhatFollows : Type 0
ClosuresEntailWhatFollows = (net : PlainNet) (table : Table) → IsClosureOf net table → EntailsWhatFollows net table

-- the command
abbrev pub relations : Command
relations = command (codes "relations") (codes "DOC" ∷ []) (of_document (λ more. of_net OfRelations) (λ more. ClashIsFree))
