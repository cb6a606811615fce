use Rattle.std.proofs.Common.{◌≡◌, ◌+◌, List, length}
use Rattle.evidence_format.specs.Evidence.{PlainEvidence}
use Rattle.evidence_format.specs.OneByOne.{HasReadClaims}
use Rattle.evidence_answers.specs.Judging.{IsJudged}
use Rattle.evidence_answers.proofs.judged.judged_claims.Given as goal

-- the claims so far were read from the text, and are judged
abbrev pub invariant-loop-number : goal.invariant-loop-number
invariant-loop-number l = (es : List PlainEvidence) × HasReadClaims es l.claims × (l.claims.text.now ≡ l.text) × (l.claims.left + l.number ≡ l.number-end) × (length es ≡ l.number) × IsJudged l.document l.net es l.judged
