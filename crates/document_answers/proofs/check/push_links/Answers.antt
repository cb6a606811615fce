use Rattle.answers.specs.Lines.{link_line}
use Rattle.document_answers.proofs.CheckLines.{next_link, line_after}
use Rattle.document_answers.proofs.check.push_links.Goals as goal

pub loop-k-preserved : goal.loop-k-preserved
loop-k-preserved c =
    line_after _ _ (link_line c.args.document.now.intervals c.loop-k.k c.link.result) _ _ _ c.loop-k.invariant
    (next_link c.args.document.now.intervals c.args.document.now.links c.loop-k.k c.link.result c.link.ensures.link)
    c.in_ok-push_link.ensures
