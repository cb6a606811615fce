-- Evidence has one text of version 2, or one bad line.
use Rattle.std.proofs.Common.{◌≡◌, ◌⊎◌, ℕ, List, refl, sym, ap, ◌∙◌, inl, inr, codes}
use Rattle.std.specs.Prelude.{⊤}
use Rattle.std.specs.List.{concat}
use Rattle.evidence_format.specs.Bundles.{bundle_lines}
use Rattle.evidence_format.specs.Evidence.{PlainEvidence}
use Rattle.evidence_format.proofs.Claims.{has_text}
use Rattle.evidence_format.proofs.Reading.{bundle_or_bad_line}
use Rattle.runs.specs.Rows.{NeverFree}
use Rattle.runs.proofs.Answering.{AreAnswered, HasAnswer, IsAnswered, one_of_two}
use Rattle.runs.specs.declared.status.Status.{Status}
use Rattle.runs.specs.declared.status.Status.TheVariants.{Done, EvidenceFault}
use Rattle.runs.proofs.OneFile.{answered_once}
use Rattle.answers.specs.Lines.{numbered}
use Rattle.evidence_answers.specs.Files.{evidence_file}
use Rattle.evidence_answers.specs.Renew.{IsRenewed, OfRenew, renew_rows}
use Rattle.evidence_answers.proofs.Files.{one_bundle, one_report}

some : (bytes : List ℕ) → HasAnswer (OfRenew bytes)
some bytes = elim (bundle_or_bad_line bytes) [
  | inl e ↦ (Done, concat (bundle_lines e.0), (e.0, e.1, has_text e.0 bytes e.1))
  | inr bad ↦ (EvidenceFault, numbered (codes "evidence line ") bad.1, (bad.0, bad.1, bad.2, refl))
]

either : (bytes : List ℕ) (status : Status) (text : List ℕ) → OfRenew bytes status text → (status ≡ Done) ⊎ (status ≡ EvidenceFault)
either bytes Done text h = inl refl
either bytes EvidenceFault text h = inr refl
either bytes status text h = absurd h

one_renewed : (bytes text line : List ℕ) → IsRenewed bytes text → IsRenewed bytes line → text ≡ line
one_renewed bytes text line h k = h.2.1 ∙ ap (λ (es : List PlainEvidence). concat (bundle_lines es)) (one_bundle h.0 k.0 bytes h.1 k.1) ∙ sym k.2.1

renewed : (bytes : List ℕ) → IsAnswered ⊤ (OfRenew bytes) (λ status. ⊥)
renewed bytes = one_of_two (OfRenew bytes) (λ status. ⊥) Done EvidenceFault refl refl (either bytes) (λ text line h k. k.0 h.0 h.1)
    (λ text line determined. one_renewed bytes text line) (λ text line determined. one_report (codes "evidence line ") bytes text line) (λ given. some bytes)

pub renew_answered : (name : List ℕ) → AreAnswered (renew_rows name) NeverFree
renew_answered name = answered_once (evidence_file name) OfRenew renewed
