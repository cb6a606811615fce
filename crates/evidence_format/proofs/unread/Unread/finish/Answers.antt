use Rattle.line_texts.specs.Lines.{lines_of}
use Rattle.evidence_format.proofs.OneByOne.{all_read, no_end}
use Rattle.evidence_format.proofs.Reading.{bundles}
use Rattle.line_texts.proofs.Reading.{is_found}
use Rattle.evidence_format.proofs.unread.Unread.finish.Goals as goal

pub stopped-requires-clause-stop : goal.stopped-requires-clause-stop
stopped-requires-clause-stop c =
    let unread = c.args.self in
    let read = c.requires.read in
    no_end c.in-Err.stop read.0 unread.left (lines_of unread.rest.now) (lines_of unread.text.now) c.requires.left c.in-Err.ensures read.1

pub returns-in-Ok-clause-ok : goal.returns-in-Ok-clause-ok
returns-in-Ok-clause-ok c = λ es read.
    let unread = c.args.self in
    is_found bundles es unread.text.now (all_read es unread.left (lines_of unread.rest.now) (lines_of unread.text.now) c.requires.left c.in-Ok.ensures read)
