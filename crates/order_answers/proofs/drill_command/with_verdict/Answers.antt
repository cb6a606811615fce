use Rattle.order_answers.proofs.Drills.{timeline_verdict}
use Rattle.order_answers.proofs.drill_command.with_verdict.Goals as goal

pub returns-clause-finding : goal.returns-clause-finding
returns-clause-finding c =
    let told = rw c.as_slice.ensures.value at c.in_ok-verdict.ensures in
    (timeline_verdict c.args.document.now c.requires.fit.0 c.args.ranks c.in_ok-evidence.evidence.items c.in_ok-verdict.verdict.finding c.in_ok-verdict.verdict.text.items c.requires.fit.1 c.requires.fit.2 c.in_ok-evidence.ensures.text told).0

pub returns-clause-text : goal.returns-clause-text
returns-clause-text c =
    let told = rw c.as_slice.ensures.value at c.in_ok-verdict.ensures in
    let line = (timeline_verdict c.args.document.now c.requires.fit.0 c.args.ranks c.in_ok-evidence.evidence.items c.in_ok-verdict.verdict.finding c.in_ok-verdict.verdict.text.items c.requires.fit.1 c.requires.fit.2 c.in_ok-evidence.ensures.text told).1 in
    rw (c.in_ok-extend_from_slice.ensures.items, c.as_slice-2.ensures.value, line, c.in_ok-push_figures.ensures, c.new-text.ensures.items)
