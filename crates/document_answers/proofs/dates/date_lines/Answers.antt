use Rattle.document_answers.proofs.Times.{completes_more, completed}
use Rattle.tml_refs.specs.View.{plain_interval}
use Rattle.document_answers.proofs.dates.date_lines.Goals as goal

pub loop-i-preserved : goal.loop-i-preserved
loop-i-preserved c =
    let line = c.in_ok-push_date.ensures in
    completes_more c.args.document.now.intervals c.loop-i.i (plain_interval c.interval.result) c.loop-i.out.items line.0 c.push_date.new.out.items c.interval.ensures c.loop-i.invariant line.1 line.2

pub returns : goal.returns
returns c = completed c.args.document.now.intervals c.loop-i.i c.loop-i.out.items (rw (← c.intervals-i-end.ensures.count) c.loop-i-test.false) c.loop-i.invariant
