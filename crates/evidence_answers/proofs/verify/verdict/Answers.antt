use Rattle.std.proofs.Common.{codes, inl}
use Rattle.evidence_check.proofs.Bundles.{all_true}
use Rattle.evidence_answers.specs.Verify.{OfVerify}
use Rattle.evidence_answers.proofs.Files.{malformed}
use Rattle.evidence_answers.proofs.verify.verdict.Goals as goal

pub returns-in-None : goal.returns-in-None
returns-in-None c =
    let given = c.in-Ok.ensures.ok in
    let judged = rw c.in-None.is at given.2 in
    rw (c.done.ensures.finding, c.done.ensures.text) (c.in_ok-net.net, c.in_ok-net.ensures.net, (given.0, given.1, judged.0, all_true c.in_ok-net.net given.0 judged.0, judged.1))

pub returns-in-Err-BadLine : goal.returns-in-Err-BadLine
returns-in-Err-BadLine c =
    let refuses = rw (c.in-Err-BadLine.is, c.in-Err-BadLine.field-0-is) at c.judged_claims.ensures.err in
    malformed (OfVerify c.args.document.now) (codes "evidence line ") c.args.text.now c.in-Err-BadLine.line c.malformed_answer.result (λ text told. (c.in_ok-net.net, c.in_ok-net.ensures.net, inl told))
    refuses.0 refuses.1 c.malformed_answer.ensures.finding c.malformed_answer.ensures.text
