use Rattle.std.proofs.lemmas.Result.{err_from_is_err_and}
use Rattle.line_texts.specs.Lines.{lines_of}
use Rattle.line_texts.specs.Reading.{line_at, many_at}
use Rattle.evidence_format.specs.Forms.{step_of}
use Rattle.line_texts.proofs.Loops.{goes_on, ends, is_done}
use Rattle.evidence_format.proofs.walks.steps_at.Goals as goal

pub returns-in_err-step : goal.returns-in_err-step
returns-in_err-step c =
    let p = err_from_is_err_and c.from_residual.result c.from_residual.ensures.1 in
    rw (p.1, p.2) (ends (line_at step_of) c.in_err-step.field-0.0 c.loop.walk c.args.count c.loop.counter (lines_of c.loop.rest.now) (many_at (line_at step_of) c.args.count (lines_of c.args.text.now)) c.loop-test.true c.in_err-step.ensures c.loop.invariant)

pub loop-preserved : goal.loop-preserved
loop-preserved c =
    rw (c.in_ok-push.ensures.ok) (goes_on (line_at step_of) c.loop.walk c.args.count c.loop.counter (lines_of c.loop.rest.now) c.in_ok-step.step (lines_of c.in_ok-step.after.now) (many_at (line_at step_of) c.args.count (lines_of c.args.text.now)) c.loop-test.true c.in_ok-step.ensures c.loop.invariant)

pub returns : goal.returns
returns c = is_done (line_at step_of) c.loop.walk c.args.count c.loop.counter (lines_of c.loop.rest.now) (many_at (line_at step_of) c.args.count (lines_of c.args.text.now)) c.loop-test.false c.loop.invariant
