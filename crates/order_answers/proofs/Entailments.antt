-- What the closure of a net entails is what follows from the net.
use Rattle.std.proofs.Common.{◌≡◌, ◌↔◌, ℕ, ◌<◌, List, arith}
use Rattle.std.specs.List.{flat_map}
use Rattle.std.proofs.lemmas.List.Elements.{All-weaker}
use Rattle.net_core.specs.Nets.{PlainNet, intervals}
use Rattle.net_core.specs.declared.rels.Rel.{Rel}
use Rattle.order_closure.specs.Tables.{Table}
use Rattle.clash.specs.Closures.{IsClosureOf}
use Rattle.derive_rel.specs.Entailed.{AreRows, TableEntails, IsRow}
use Rattle.derive_rel.specs.declared.all_rows.Row.{Row}
use Rattle.net_core.specs.Entailment.{Follows}
use Rattle.tml_refs.specs.Documents.{PlainDocument}
use Rattle.order_answers.specs.Relations.{AreRelations, ClosuresEntailWhatFollows, FollowsBetween, OfRelations, row_line}
use Rattle.runs.specs.declared.status.Status.TheVariants.{Done}
use Rattle.clash.proofs.Entailing.{gives_what_follows}

module _ (net : PlainNet) (table : Table) (closure : IsClosureOf net table) where
  -- the closure entails a relation exactly if it follows
  pub entails_follows : (a : ℕ) (r : Rel) (b : ℕ) → a < intervals net → b < intervals net → TableEntails table a r b ↔ Follows net a r b
  entails_follows = gives_what_follows net table closure

  -- a row of the closure is a relation that follows
  row_follows : (row : Row) → IsRow table row ↔ FollowsBetween net row
  row_follows row = (
    λ is. let within : row.b < intervals net = omega (arith, is.1, closure.size) in (is.0, within, (entails_follows row.a row.rel row.b (omega (arith, is.0, within)) within).0 is.2),
    λ follows. (follows.0, omega (arith, follows.1, closure.size), (entails_follows row.a row.rel row.b (omega (arith, follows.0, follows.1)) follows.1).1 follows.2),
  )

  -- the rows of the closure are the relations that follow
  pub rows_follow : (rows : List Row) → AreRows table rows ↔ AreRelations net rows
  rows_follow rows = (
    λ are. record {
      right = All-weaker (IsRow table) (FollowsBetween net) (λ row. (row_follows row).0) rows are.right;
      whole = λ row follows. are.whole row ((row_follows row).1 follows);
      sorted = are.sorted;
    },
    λ are. record {
      right = All-weaker (FollowsBetween net) (IsRow table) (λ row. (row_follows row).1) rows are.right;
      whole = λ row is. are.whole row ((row_follows row).0 is);
      sorted = are.sorted;
    },
  )

-- so it entails what follows
pub closures_entail_what_follows : ClosuresEntailWhatFollows
closures_entail_what_follows = λ net table closure. record { relations = entails_follows net table closure; rows = rows_follow net table closure }

-- a line for each row of the closure is what `relations` prints
pub shows_relations : (contents : PlainDocument) (net : PlainNet) (table : Table) (rows : List Row) (text : List ℕ) → IsClosureOf net table → AreRows table rows → text ≡ flat_map (row_line contents) rows → OfRelations contents net Done text
shows_relations contents net table rows text closure are is = (rows, (rows_follow net table closure rows).0 are, is)
