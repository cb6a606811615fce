use Rattle.tml_span.proofs.ClosedUnits.{lead_comment, comment_unclosed}
use Rattle.tml_span.proofs.enclosed.comment_at.Goals as goal

pub returns-in_err-text-clause-unit : goal.returns-in_err-text-clause-unit
returns-in_err-text-clause-unit c = rw c.from_residual.ensures (comment_unclosed _ _ (lead_comment c.args.bytes.now c.requires.prefix) c.in_err-text.ensures.none)
