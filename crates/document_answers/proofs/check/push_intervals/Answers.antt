use Rattle.document_answers.specs.Check as texts
use Rattle.document_answers.proofs.CheckLines.{next_interval, line_after}
use Rattle.tml_refs.specs.View.{plain_interval}
use Rattle.document_answers.proofs.check.push_intervals.Goals as goal

pub loop-i-preserved : goal.loop-i-preserved
loop-i-preserved c =
    line_after _ _ (texts.interval_line c.loop-i.i (plain_interval c.interval.result)) _ _ _ c.loop-i.invariant
    (next_interval c.args.document.now.intervals c.loop-i.i (plain_interval c.interval.result) c.interval.ensures)
    c.in_ok-push_interval.ensures
