use Rattle.evidence_answers.proofs.Joined.{cannot_judge}
use Rattle.evidence_answers.proofs.join.bodies_of.Goals as goal

pub returns-in-Err-BadLine-clause-err : goal.returns-in-Err-BadLine-clause-err
returns-in-Err-BadLine-clause-err c =
    let refuses = rw (c.in-Err-BadLine.is, c.in-Err-BadLine.field-0-is) at c.read_bodies.ensures.err in
    rw c.from_answer.ensures (cannot_judge c.args.text.now c.in-Err-BadLine.line c.malformed_answer-answer.result
    refuses.0 refuses.1 c.malformed_answer-answer.ensures.finding c.malformed_answer-answer.ensures.text)
