use Rattle.line_texts.proofs.Reading.{refuses}
use Rattle.evidence_format.proofs.Reading.{bundles}
use Rattle.evidence_format.proofs.unread.stopped.Goals as goal

pub refusal-requires-clause-within : goal.refusal-requires-clause-within
refusal-requires-clause-within c = (refuses bundles c.args.text.now c.args.stop c.requires.stop).0

pub returns : goal.returns
returns c = rw c.refusal.ensures (refuses bundles c.args.text.now c.args.stop c.requires.stop).1
