use Rattle.line_texts.specs.Lines.{lines_of}
use Rattle.evidence_format.specs.View.{plain_body}
use Rattle.evidence_format.proofs.OneByOne.{good_claim, none_follows, one_read}
use Rattle.evidence_format.proofs.unread.Unread.next_claim.Goals as goal

pub stopped-requires-clause-stop : goal.stopped-requires-clause-stop
stopped-requires-clause-stop c =
    let unread = c.args.self.now in
    let read = c.requires.read in
    none_follows c.in-Err.stop read.0 unread.left (lines_of unread.rest.now) (lines_of unread.text.now) c.requires.left c.in-Err.ensures read.1

pub returns-in-Ok-clause-ok : goal.returns-in-Ok-clause-ok
returns-in-Ok-clause-ok c = λ es read.
    let unread = c.args.self.now in
    one_read es (plain_body c.in-Ok.claim) unread.left (lines_of unread.rest.now) (lines_of c.in-Ok.rest.now) (lines_of unread.text.now) c.requires.left c.in-Ok.ensures read

pub returns-in-Ok-clause-good : goal.returns-in-Ok-clause-good
returns-in-Ok-clause-good c = good_claim (lines_of c.args.self.now.rest.now) (lines_of c.in-Ok.rest.now) (plain_body c.in-Ok.claim) c.in-Ok.ensures
