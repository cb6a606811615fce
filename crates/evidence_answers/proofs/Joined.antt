-- How the files of a join are answered.
use Rattle.std.proofs.Common.{◌≡◌, ℕ, List, Result, Ok, Err, codes, inl, inr, refl, ap}
use Rattle.std.specs.Prelude.{IfOk}
use Rattle.evidence_format.specs.Bundles.{IsBadLineOfEither, IsTextOfEither}
use Rattle.evidence_format.specs.Evidence.{PlainEvidence}
use Rattle.answers.specs.Lines.{numbered}
use Rattle.runs.specs.TwoFiles.{CannotJudge}
use Rattle.runs.specs.View.{finding_status, reply_of, status_of, text_of}
use Rattle.runs.specs.declared.answer.Answer.{Answer}
use Rattle.runs.specs.declared.answer.Finding.TheVariants as Finding
use Rattle.evidence_answers.specs.Join.{evidence}

-- a malformed first file cannot be judged
pub cannot_judge : {E : Type 0} (bytes : List ℕ) (line : ℕ) (r : Result Answer E) → ((es : List PlainEvidence) → IsTextOfEither es bytes → ⊥) → IsBadLineOfEither bytes line
    → IfOk r (λ answer. answer.finding ≡ Finding.EvidenceFault) → IfOk r (λ answer. answer.text.items ≡ numbered (codes "evidence line ") line)
    → CannotJudge evidence bytes (status_of (reply_of r)) (text_of (reply_of r))
cannot_judge bytes line (Ok answer) none bad found text = inl (ap finding_status found, (none, line, bad, text))
cannot_judge bytes line (Err error) none bad found text = inr (refl, refl)
