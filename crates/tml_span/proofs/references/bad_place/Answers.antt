use Rattle.tml_span.proofs.FirstBad.{first_at, nowhere_at}
use Rattle.tml_span.proofs.references.bad_place.Goals as goal

pub returns : goal.returns
returns c = first_at _ _ _ c.in_ok-index.ensures.first

pub returns-in_err-index : goal.returns-in_err-index
returns-in_err-index c = rw c.from_residual.ensures (nowhere_at _ _ c.in_err-index.ensures.first)
