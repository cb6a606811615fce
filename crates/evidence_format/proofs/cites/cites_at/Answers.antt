use Rattle.std.proofs.Common.{◌-◌, arith}
use Rattle.std.proofs.lemmas.Result.{err_from_is_err_and}
use Rattle.line_texts.specs.Lines.{lines_of}
use Rattle.evidence_format.specs.Readers.{cites_at}
use Rattle.evidence_format.proofs.CiteLaws.{cites_go_on, cites_end, cites_done}
use Rattle.evidence_format.proofs.cites.cites_at.Goals as goal

pub returns-in_err-link : goal.returns-in_err-link
returns-in_err-link c =
    let p = err_from_is_err_and c.from_residual.result c.from_residual.ensures.1 in
    rw (p.1, p.2) (cites_end c.in_err-link.field-0.0 c.loop-left.cites c.loop-left.left (c.loop-left.left - 1) c.loop-left.least (lines_of c.loop-left.rest.now) (cites_at c.args.count 0 (lines_of c.args.text.now)) (omega arith) c.in_err-link.ensures c.loop-left.invariant)

pub loop-left-preserved : goal.loop-left-preserved
loop-left-preserved c =
    rw (c.in_ok-push.ensures.ok, c.from-least.ensures) (cites_go_on c.loop-left.cites c.loop-left.left (c.loop-left.left - 1) c.loop-left.least (lines_of c.loop-left.rest.now) c.in_ok-link.link (lines_of c.in_ok-link.after.now) (cites_at c.args.count 0 (lines_of c.args.text.now)) (omega arith) c.in_ok-link.ensures c.loop-left.invariant)

pub returns : goal.returns
returns c = cites_done c.loop-left.cites c.loop-left.left c.loop-left.least (lines_of c.loop-left.rest.now) (cites_at c.args.count 0 (lines_of c.args.text.now)) (omega arith) c.loop-left.invariant
