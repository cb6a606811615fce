use Rattle.std.proofs.Common.{length, map, ap}
use Rattle.std.proofs.lemmas.Result.{err_from_is_err_and}
use Rattle.net_core.specs.Ranks.{pairs_of}
use Rattle.line_texts.specs.Lines.{lines_of}
use Rattle.line_texts.specs.Reading.{many_at}
use Rattle.evidence_format.specs.Readers.{timeline_at}
use Rattle.evidence_format.specs.Timelines.{parts_of}
use Rattle.line_texts.proofs.Loops.{goes_on, ends, is_done}
use Rattle.evidence_format.proofs.Parted.{timeline_push}
use Rattle.evidence_format.proofs.timeline.timelines_at.Goals as goal

pub returns-in_err-rest : goal.returns-in_err-rest
returns-in_err-rest c =
    let so_far = c.loop.invariant in
    let p = err_from_is_err_and c.from_residual.result c.from_residual.ensures.1 in
    rw (p.1, p.2) (ends timeline_at c.in_err-rest.field-0.0 (map pairs_of (parts_of 0 c.loop.ends c.loop.ranks)) c.args.count c.loop.counter (lines_of c.loop.rest.now) (many_at timeline_at c.args.count (lines_of c.args.text.now)) c.loop-test.true c.in_err-rest.ensures so_far.1)

pub loop-preserved : goal.loop-preserved
loop-preserved c =
    let so_far = c.loop.invariant in
    let appended = c.in_ok-rest.ensures in
    let pushed = timeline_push c.loop.ends c.loop.ranks c.push_timeline_at.new.ranks appended.0 (length c.as_slice.result.now) so_far.0 appended.2 (ap length c.as_slice.ensures.value) in
    rw c.in_ok-push.ensures.ok (
      pushed.0,
      rw pushed.1 (goes_on timeline_at (map pairs_of (parts_of 0 c.loop.ends c.loop.ranks)) c.args.count c.loop.counter (lines_of c.loop.rest.now) appended.0 (lines_of c.in_ok-rest.rest.now) (many_at timeline_at c.args.count (lines_of c.args.text.now)) c.loop-test.true appended.1 so_far.1),
    )

pub returns : goal.returns
returns c =
    let so_far = c.loop.invariant in
    rw c.from_parts.ensures (is_done timeline_at (map pairs_of (parts_of 0 c.loop.ends c.loop.ranks)) c.args.count c.loop.counter (lines_of c.loop.rest.now) (many_at timeline_at c.args.count (lines_of c.args.text.now)) c.loop-test.false so_far.1)
