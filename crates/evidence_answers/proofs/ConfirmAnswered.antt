-- A text of seconds has one answer, by its document: one status, and one line.
use Rattle.std.proofs.Common.{◌≡◌, ◌⊎◌, ℕ, List, codes, refl, sym, ap, subst, ◌∙◌, inl, inr}
use Rattle.std.specs.Prelude.{⊤}
use Rattle.answers.proofs.Answering.{IsAnsweredByDocument}
use Rattle.answers.specs.Lines.{numbered}
use Rattle.answers.proofs.Answered.{judged_answered_once}
use Rattle.answers.proofs.Contents.{its_document}
use Rattle.seconds_build.specs.Built.{IsTimedOf}
use Rattle.seconds_build.proofs.EveryTime.{every_timed}
use Rattle.seconds_build.proofs.Nets.{one_timed}
use Rattle.seconds_check.specs.Refusals.{IsPaired, AreSecondsRefused}
use Rattle.seconds_check.proofs.Judged.{confirmed_or_refused}
use Rattle.seconds_check.proofs.Verdicts.{one_verdict}
use Rattle.seconds_core.specs.Evidence.{PlainSeconds, Placed, Cycle}
use Rattle.seconds_core.specs.Timed.{PlainTimed}
use Rattle.seconds_format.specs.Texts.{IsSecondsText}
use Rattle.seconds_format.proofs.Reading.{every_text, one_bad, one_value}
use Rattle.runs.specs.Rows.{NeverFree}
use Rattle.runs.specs.declared.status.Status.{Status}
use Rattle.runs.specs.declared.status.Status.TheVariants.{Done, EvidenceFault}
use Rattle.runs.proofs.Answering.{AreAnswered, HasAnswer, IsAnswered, by_the_one, one_of_two}
use Rattle.evidence_answers.specs.ConfirmTexts.{seconds_claim_line, seconds_refusal_line}
use Rattle.evidence_answers.specs.Confirmed.{OfConfirm, OfText, ReportsBadLine, ReportsClaim, ReportsSecondsRefusal, confirm_rows, seconds_file}

module _ (timed : PlainTimed) (bytes : List ℕ) where
  -- what is confirmed is not refused
  claim_or_refusal : (text line : List ℕ) → ReportsClaim timed bytes text → ReportsSecondsRefusal timed bytes line → ⊥
  claim_or_refusal text line h k =
      (one_verdict timed h.0).not_both k.1 h.2 (subst (λ (e : PlainSeconds). AreSecondsRefused timed e k.1) (one_value k.0 h.0 bytes k.2 h.1) k.3)

  either : (status : Status) (text : List ℕ) → OfText timed bytes status text → (status ≡ Done) ⊎ (status ≡ EvidenceFault)
  either Done text h = inl refl
  either EvidenceFault text h = inr refl
  either status text h = absurd h

  claim_or_fault : (text line : List ℕ) → ReportsClaim timed bytes text → ReportsBadLine bytes line ⊎ ReportsSecondsRefusal timed bytes line → ⊥
  claim_or_fault text line h (inl k) = k.0 h.0 h.1
  claim_or_fault text line h (inr k) = claim_or_refusal text line h k

  same_fault : (text line : List ℕ) → ReportsBadLine bytes text ⊎ ReportsSecondsRefusal timed bytes text → ReportsBadLine bytes line ⊎ ReportsSecondsRefusal timed bytes line → text ≡ line
  same_fault text line (inl h) (inl k) = h.3 ∙ ap (numbered (codes "evidence line ")) (one_bad bytes h.1 k.1 h.2 k.2) ∙ sym k.3
  same_fault text line (inl h) (inr k) = absurd (h.0 k.0 k.2)
  same_fault text line (inr h) (inl k) = absurd (k.0 h.0 h.2)
  same_fault text line (inr h) (inr k) =
      let same = one_value h.0 k.0 bytes h.2 k.2 in
      h.4 ∙ ap seconds_refusal_line ((one_verdict timed k.0).one_refusal h.1 k.1 (subst (λ (e : PlainSeconds). AreSecondsRefused timed e h.1) same h.3) k.3) ∙ sym k.4

  same_claim : (text line : List ℕ) → ReportsClaim timed bytes text → ReportsClaim timed bytes line → text ≡ line
  same_claim text line h k = h.3 ∙ ap seconds_claim_line (one_value h.0 k.0 bytes h.1 k.1) ∙ sym k.3

-- the seconds of a text are a start and an end of each interval
paired : (e : PlainSeconds) (bytes : List ℕ) → IsSecondsText e bytes → IsPaired e
paired (Placed seconds) bytes is = is.0.0.0
paired (Cycle lines) bytes is = tt

some : (timed : PlainTimed) (bytes : List ℕ) → HasAnswer (OfText timed bytes)
some timed bytes = elim (every_text bytes) [
  | inr bad ↦ (EvidenceFault, numbered (codes "evidence line ") bad.1, inl (bad.0, bad.1, bad.2, refl))
  | inl e ↦ elim (confirmed_or_refused timed e.0 (paired e.0 bytes e.1)) [
    | inl confirmed ↦ (Done, seconds_claim_line e.0, (e.0, e.1, confirmed, refl))
    | inr refused ↦ (EvidenceFault, seconds_refusal_line refused.0, inr (e.0, refused.0, e.1, refused.1, refl))
  ]
]

of_timed : (timed : PlainTimed) (bytes : List ℕ) → IsAnswered ⊤ (OfText timed bytes) (λ status. ⊥)
of_timed timed bytes = one_of_two (OfText timed bytes) (λ status. ⊥) Done EvidenceFault refl refl (either timed bytes) (claim_or_fault timed bytes)
    (λ text line determined. same_claim timed bytes text line) (λ text line determined. same_fault timed bytes text line) (λ given. some timed bytes)

pub confirm_judged : IsAnsweredByDocument OfConfirm (λ contents bytes status. ⊥)
confirm_judged doc contents says bytes =
    let (timed, built, is) = every_timed contents (its_document doc contents says) in
    by_the_one (IsTimedOf contents) (one_timed contents) (λ timed. OfText timed bytes) timed built (of_timed timed bytes)

pub confirm_answered : (name seconds : List ℕ) → AreAnswered (confirm_rows name seconds) NeverFree
confirm_answered name seconds = judged_answered_once name (seconds_file seconds) OfConfirm confirm_judged
