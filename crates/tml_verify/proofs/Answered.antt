-- What the rows of all words have.
use Rattle.std.proofs.Common.{ℕ, Bool, true, false, List, Option, None, Some}
use Rattle.std.specs.Prelude.{MatchBool, ⊤}
use Rattle.answers.proofs.Answering.{IsAnsweredByDocument}
use Rattle.answers.proofs.Answered.{judged_answered_once}
use Rattle.evidence_answers.specs.Confirmed.{OfConfirm}
use Rattle.evidence_answers.specs.Files.{evidence_file}
use Rattle.evidence_answers.specs.Verify.{OfVerify}
use Rattle.evidence_answers.proofs.ConfirmAnswered.{confirm_judged}
use Rattle.evidence_answers.proofs.VerifyAnswered.{verify_judged}
use Rattle.runs.specs.Rows.{NeverFree}
use Rattle.runs.proofs.Answering.{AreAnswered, IsAnswered}
use Rattle.runs.proofs.Usage.{usage_answered}
use Rattle.tml_verify.specs.Either.{OfEither, is_seconds}
use Rattle.tml_verify.specs.Words.{asked_of, rows_of, usage}

-- a file that is seconds has its answer, and so has each other one
either_judged : IsAnsweredByDocument OfEither (λ contents bytes status. ⊥)
either_judged doc contents says bytes = by_kind (is_seconds bytes)
  where
    by_kind : (seconds : Bool) → IsAnswered ⊤ (λ status text. MatchBool seconds (OfConfirm contents bytes status text) (OfVerify contents bytes status text)) (λ status. ⊥)
    by_kind true = confirm_judged doc contents says bytes
    by_kind false = verify_judged doc contents says bytes

answered : (asked : Option (List ℕ × List ℕ)) → AreAnswered (rows_of asked) NeverFree
answered (Some asked) = judged_answered_once asked.0 (evidence_file asked.1) OfEither either_judged
answered None = usage_answered usage

pub words_answered : (words : List (List ℕ)) → AreAnswered (rows_of (asked_of words)) NeverFree
words_answered words = answered (asked_of words)
