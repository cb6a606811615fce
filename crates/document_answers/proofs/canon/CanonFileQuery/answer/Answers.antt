use Rattle.std.proofs.Common.{refl, inr}
use Rattle.document_answers.proofs.CanonAnswered.{has_canonical_text}
use Rattle.document_answers.proofs.canon.CanonFileQuery.answer.Goals as goal

pub returns-in-Ok : goal.returns-in-Ok
returns-in-Ok c =
    let written = c.in-Ok.ensures.text in
    let has = has_canonical_text c.args.bytes.now _ written.0 c.in-Ok.ensures.accepted written.1 written.2 in
    rw (c.done.ensures.finding, c.done.ensures.text, c.into_vec.ensures) (inr (refl, has))
