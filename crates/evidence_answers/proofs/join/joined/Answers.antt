use Rattle.std.proofs.Common.{List, codes, arith}
use Rattle.evidence_format.specs.Bundles.{AreBodies, AreClaims}
use Rattle.evidence_format.specs.Evidence.{PlainEvidence}
use Rattle.evidence_format.proofs.Claims.{are_claims, both_are_claims}
use Rattle.runs.specs.OneFile.{Answers}
use Rattle.evidence_answers.specs.Join.{OfSecond}
use Rattle.evidence_answers.proofs.Files.{malformed}
use Rattle.evidence_answers.proofs.join.joined.Goals as goal

pub returns-in-Err-BadLine : goal.returns-in-Err-BadLine
returns-in-Err-BadLine c =
    let refuses = rw (c.in-Err-BadLine.is, c.in-Err-BadLine.field-0-is) at c.read_bodies.ensures.err in
    let of_any : Answers = λ bytes status text. (es : List PlainEvidence) → AreClaims es → AreBodies es c.args.first → OfSecond es bytes status text in
    malformed of_any (codes "second line ") c.args.second.now c.in-Err-BadLine.line c.malformed_answer.result (λ text told es are bodies. told)
    refuses.0 refuses.1 c.malformed_answer.ensures.finding c.malformed_answer.ensures.text

pub returns : goal.returns
returns c = λ es are bodies.
    let more = c.in-Ok.ensures.ok in
    let both = both_are_claims es more.0 are (are_claims more.0 c.args.second.now more.1) (omega (arith, bodies.0, more.2.0, c.requires.few, c.requires.second, c.in-Ok.ensures.few)) in
    rw (c.done.ensures.finding, c.done.ensures.text, c.into_vec.ensures) (more.0, more.1, c.in_ok-text.ensures es more.0 both bodies more.2)
