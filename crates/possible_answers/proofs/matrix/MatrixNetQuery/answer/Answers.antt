use Rattle.std.proofs.Common.{◌≡◌, ℕ, arith, subst}
use Rattle.net_build.proofs.Intervals.{as_many}
use Rattle.possible_answers.specs.Matrix.{RelTest, TellsTable, matrix_lines}
use Rattle.possible_answers.proofs.MatrixAnswered.{closure_starts, shows_matrix}
use Rattle.possible_answers.proofs.matrix.MatrixNetQuery.answer.Goals as goal

pub matrix_text-requires-clause-points : goal.matrix_text-requires-clause-points
matrix_text-requires-clause-points c = omega (arith, c.requires.closure.size, as_many c.args.document.now c.args._net.now c.requires.built)

pub matrix_text-requires-clause-starts : goal.matrix_text-requires-clause-starts
matrix_text-requires-clause-starts c = closure_starts c.args._net.now c.args.closure.now c.requires.closure

pub returns : goal.returns
returns c =
    let contents = c.args.document.now in
    let lines = subst (λ (n : ℕ). (can : RelTest) → TellsTable c.args.closure.now can → c.in_ok-matrix_text.field-0.items ≡ matrix_lines contents.intervals n can 0) (as_many contents c.args._net.now c.requires.built) c.in_ok-matrix_text.ensures in
    rw (c.done.ensures.finding, c.done.ensures.text) (shows_matrix contents c.args._net.now c.args.closure.now _ c.requires.closure c.points.ensures.closed lines)
