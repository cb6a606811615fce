use Rattle.std.proofs.Common.{codes}
use Rattle.evidence_answers.specs.Renew.{OfRenew}
use Rattle.evidence_answers.proofs.Files.{malformed}
use Rattle.evidence_answers.proofs.renew.RenewFileQuery.answer.Goals as goal

pub returns-in-Err-BadLine : goal.returns-in-Err-BadLine
returns-in-Err-BadLine c =
    let refuses = rw (c.in-Err-BadLine.is, c.in-Err-BadLine.field-0-is) at c.read_bodies.ensures.err in
    malformed OfRenew (codes "evidence line ") c.args.bytes.now c.in-Err-BadLine.line c.malformed_answer.result (λ text told. told)
    refuses.0 refuses.1 c.malformed_answer.ensures.finding c.malformed_answer.ensures.text
