-- A net has one matrix.
use Rattle.std.proofs.Common.{◌≡◌, ◌↔◌, ℕ, ◌+◌, ◌*◌, List, refl, sym, ◌∙◌, arith}
use Rattle.clash.specs.Closures.{IsClosureOf}
use Rattle.clash.proofs.Answered.{closed_net}
use Rattle.net_answers.specs.Nets.{ClashIsFree}
use Rattle.net_answers.proofs.Answering.{NetsAreAnswered}
use Rattle.net_answers.proofs.Nets.{net_rows_answered}
use Rattle.net_core.specs.Entailment.{HasTimeline}
use Rattle.net_core.specs.Fits.{Fits}
use Rattle.net_core.specs.Nets.{IsNet, PlainNet, intervals, points}
use Rattle.net_core.specs.Relations.{Timeline}
use Rattle.order_closure.specs.Tables.{AreClosed, AreCellsKept, IsClosed, Table, cell_at}
use Rattle.order_closure.specs.declared.cell.Cell.{Cell}
use Rattle.possible_answers.specs.Matrix.{OfMatrix, RelTest, TellsNet, TellsTable, matrix_lines, matrix_rows}
use Rattle.possible_answers.proofs.Lines.{matrices_agree}
use Rattle.possible_answers.proofs.Tests.{can_of, can_of_told}
use Rattle.tml_possible.specs.Possible.{CanBe, StartFirst}
use Rattle.tml_refs.specs.Documents.{PlainDocument}
use Rattle.runs.specs.declared.status.Status.{Status}
use Rattle.runs.specs.declared.status.Status.TheVariants.{Clash, Done}
use Rattle.runs.proofs.Answering.{AreAnswered, one_answer}

-- a test by closed cells which the timelines that fit a net keep tells what can be
pub tells_net : (net : PlainNet) (n : ℕ) (cell : ℕ → ℕ → Cell) (closed : AreClosed n cell) → n ≡ points net → ((t : Timeline) → AreCellsKept n cell t ↔ Fits net t) → TellsNet net (can_of n cell closed)
tells_net net n cell closed size same a b both r base =
    let told = can_of_told n cell closed a r b (omega (arith, both.0, size)) (omega (arith, both.1, size)) in (
      λ h. let (t, kept, holds) = told.0 h in (t, (same t).0 kept, holds),
      λ h. let (t, fits, holds) = h in told.1 (t, (same t).1 fits, holds),
    )

-- and what can hold by a table with these cells
pub tells_table : (table : Table) (closed : IsClosed table) → TellsTable table (can_of table.points (cell_at table) closed)
tells_table table closed a b la lb r base = can_of_told table.points (cell_at table) closed a r b la lb

-- by the closure of a net each interval starts before it ends
pub closure_starts : (net : PlainNet) (table : Table) → IsClosureOf net table → StartFirst table
closure_starts net table closure i lt = (closure.strict (2 * i) (2 * i + 1) (omega (arith, lt, closure.size)) (omega (arith, lt, closure.size))).1 (λ t fits. fits.order i (omega (arith, lt, closure.size)))

-- the text of the closure is what `matrix` prints
pub shows_matrix : (contents : PlainDocument) (net : PlainNet) (table : Table) (text : List ℕ) → IsClosureOf net table → IsClosed table
    → ((can : RelTest) → TellsTable table can → text ≡ matrix_lines contents.intervals (intervals net) can 0) → OfMatrix contents net Done text
shows_matrix contents net table text closure closed is =
    let can = can_of table.points (cell_at table) closed in
    (can, tells_net net table.points (cell_at table) closed closure.size closure.keeps, is can (tells_table table closed))

done : (contents : PlainDocument) (net : PlainNet) (status : Status) (text : List ℕ) → OfMatrix contents net status text → status ≡ Done
done contents net Done text h = refl
done contents net status text h = absurd h

one_text : (contents : PlainDocument) (net : PlainNet) (text line : List ℕ) → OfMatrix contents net Done text → OfMatrix contents net Done line → text ≡ line
one_text contents net text line (can, tells, is) (other, too, are) =
    is ∙ matrices_agree contents.intervals (intervals net) (λ a b r. CanBe net a r b) can other (λ a b la lb. tells a b (la, lb)) (λ a b la lb. too a b (la, lb)) ∙ sym are

some_matrix : (contents : PlainDocument) (net : PlainNet) → IsNet net → HasTimeline net → (text : List ℕ) × OfMatrix contents net Done text
some_matrix contents net is fits =
    let (cell, closed, same) = closed_net net is fits.0 fits.1 in
    let can = can_of (points net) cell closed in
    (matrix_lines contents.intervals (intervals net) can 0, (can, tells_net net (points net) cell closed refl same, refl))

matrices : NetsAreAnswered OfMatrix
matrices contents net is fits =
    let found = some_matrix contents net is fits in
    one_answer (OfMatrix contents net) (λ status. status ≡ Clash) Done refl (done contents net) (λ text line determined h k. one_text contents net text line h k) found.0 found.1

pub matrix_answered : (name : List ℕ) → AreAnswered (matrix_rows name) ClashIsFree
matrix_answered name = net_rows_answered OfMatrix matrices name
