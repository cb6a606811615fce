use Rattle.std.proofs.Common.{[], ◌∷◌, length, length-append, ap, arith}
use Rattle.std.proofs.lemmas.Result.{err_from_is_err_and}
use Rattle.line_texts.specs.Lines.{lines_of}
use Rattle.line_texts.specs.Reading.{line_at, many_at}
use Rattle.line_texts.proofs.Loops.{goes_on, ends, is_done}
use Rattle.seconds_format.specs.Forms.{cycle_line_of}
use Rattle.seconds_format.proofs.cycle.lines_at.Goals as goal

pub returns-in_err-line-clause-lines : goal.returns-in_err-line-clause-lines
returns-in_err-line-clause-lines c =
    let p = err_from_is_err_and c.from_residual.result c.from_residual.ensures.1 in
    rw (p.1, p.2) (ends (line_at cycle_line_of) c.in_err-line.field-0.0 c.loop.lines c.args.count c.loop.counter (lines_of c.loop.rest.now) (many_at (line_at cycle_line_of) c.args.count (lines_of c.args.text.now)) c.loop-test.true c.in_err-line.ensures c.loop.invariant.lines)

pub loop-preserved : goal.loop-preserved
loop-preserved c = record {
  lines = rw (c.in_ok-push.ensures.ok) (goes_on (line_at cycle_line_of) c.loop.lines c.args.count c.loop.counter (lines_of c.loop.rest.now) c.in_ok-line.line (lines_of c.in_ok-line.after.now) (many_at (line_at cycle_line_of) c.args.count (lines_of c.args.text.now)) c.loop-test.true c.in_ok-line.ensures c.loop.invariant.lines);
  size = omega (arith, ap length c.in_ok-push.ensures.ok, length-append c.loop.lines (c.in_ok-line.line ∷ []));
}

pub returns-clause-lines : goal.returns-clause-lines
returns-clause-lines c = is_done (line_at cycle_line_of) c.loop.lines c.args.count c.loop.counter (lines_of c.loop.rest.now) (many_at (line_at cycle_line_of) c.args.count (lines_of c.args.text.now)) c.loop-test.false c.loop.invariant.lines
