use Rattle.tml_span.proofs.Checks.{first_kept, first_more}
use Rattle.tml_span.proofs.check.first_bad.Goals as goal

pub returns-in-Some : goal.returns-in-Some
returns-in-Some c = λ pieces h. first_kept pieces _ c.args.bad c.in-Some.field-0 c.in-Some.is h

pub returns-in-None : goal.returns-in-None
returns-in-None c = λ pieces h. first_more pieces _ c.bad_place_in_value.result (rw c.in-None.is at h) c.bad_place_in_value.ensures
