use Rattle.line_texts.specs.Lines.{lines_of}
use Rattle.evidence_format.proofs.OneByOne.{none_begun, none_read}
use Rattle.evidence_format.proofs.unread.Unread.of_text.Goals as goal

pub stopped-requires-clause-stop : goal.stopped-requires-clause-stop
stopped-requires-clause-stop c = none_begun c.in-Err.stop (lines_of c.args.text.now) c.in-Err.ensures

pub returns-in-Ok-clause-ok : goal.returns-in-Ok-clause-ok
returns-in-Ok-clause-ok c = none_read (lines_of c.args.text.now) (lines_of c.in-Ok.rest.now) c.in-Ok.left c.in-Ok.ensures
