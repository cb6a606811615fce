use Rattle.std.proofs.Common.{[], ◌∷◌, ◌++◌}
use Rattle.std.proofs.lemmas.Result.{err_from_is_err_and}
use Rattle.line_texts.specs.Lines.{lines_of}
use Rattle.line_texts.specs.Reading.{many_at}
use Rattle.evidence_format.specs.Readers.{body_at}
use Rattle.evidence_format.specs.View.{plain_body}
use Rattle.line_texts.proofs.Loops.{goes_on, ends, is_done}
use Rattle.evidence_format.proofs.bodies.pass_bodies.Goals as goal

pub returns-in_err-after : goal.returns-in_err-after
returns-in_err-after c =
    let so_far = c.loop.invariant in
    let p = err_from_is_err_and c.from_residual.result c.from_residual.ensures.1 in
    rw (p.1, p.2) (ends body_at c.in_err-after.field-0.0 so_far.0 c.args.count c.loop.counter (lines_of c.loop.rest.now) (many_at body_at c.args.count (lines_of c.args.text.now)) c.loop-test.true c.in_err-after.ensures so_far.1)

pub loop-preserved : goal.loop-preserved
loop-preserved c =
    let so_far = c.loop.invariant in
    let e = plain_body c.in_ok-after.field-0-0 in
    (so_far.0 ++ e ∷ [], goes_on body_at so_far.0 c.args.count c.loop.counter (lines_of c.loop.rest.now) e (lines_of c.in_ok-after.after.now) (many_at body_at c.args.count (lines_of c.args.text.now)) c.loop-test.true c.in_ok-after.ensures so_far.1)

pub returns : goal.returns
returns c =
    let so_far = c.loop.invariant in
    (so_far.0, is_done body_at so_far.0 c.args.count c.loop.counter (lines_of c.loop.rest.now) (many_at body_at c.args.count (lines_of c.args.text.now)) c.loop-test.false so_far.1)
