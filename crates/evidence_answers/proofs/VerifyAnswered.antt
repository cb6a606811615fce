-- Evidence of a document has one answer: one status, and one text.
use Rattle.std.proofs.Common.{◌≡◌, ◌⊎◌, ℕ, List, codes, refl, sym, ap, subst, ◌∙◌, inl, inr}
use Rattle.std.specs.Prelude.{⊤}
use Rattle.answers.proofs.Answering.{IsAnsweredByDocument}
use Rattle.answers.specs.Lines.{numbered}
use Rattle.answers.proofs.Answered.{judged_answered_once}
use Rattle.answers.proofs.Contents.{its_document}
use Rattle.evidence_check.specs.Bundles.{IsFirstRefused}
use Rattle.evidence_check.proofs.Bundles.{all_true, one_bundle_verdict}
use Rattle.evidence_format.specs.Evidence.{PlainEvidence}
use Rattle.evidence_format.proofs.Claims.{well_formed_claims}
use Rattle.evidence_format.proofs.Reading.{bundle_or_bad_line}
use Rattle.net_build.specs.Built.{IsNetOf}
use Rattle.net_build.proofs.EveryNet.{every_net}
use Rattle.net_build.proofs.OneNet.{one_net}
use Rattle.net_core.specs.Nets.{PlainNet}
use Rattle.tml_refs.specs.Documents.{PlainDocument}
use Rattle.runs.specs.Rows.{NeverFree}
use Rattle.runs.specs.declared.status.Status.{Status}
use Rattle.runs.specs.declared.status.Status.TheVariants.{Done, EvidenceFault}
use Rattle.runs.proofs.Answering.{AreAnswered, HasAnswer, IsAnswered, by_the_one, one_of_two}
use Rattle.evidence_answers.specs.Files.{ReportsEvidenceLine, evidence_file}
use Rattle.evidence_answers.specs.Texts.{claim_lines, refusal_line}
use Rattle.evidence_answers.specs.Verify.{OfEvidence, OfVerify, ReportsClaims, ReportsRefusal, verify_rows}
use Rattle.evidence_answers.proofs.Files.{one_bundle, one_report}

-- claims of which one is refused by the net do not all have its support
claims_or_refusal : (contents : PlainDocument) (net : PlainNet) (bytes text line : List ℕ) → ReportsClaims contents net bytes text → ReportsRefusal net bytes line → ⊥
claims_or_refusal contents net bytes text line h k =
    let same = one_bundle k.0 h.0 bytes k.2 h.1 in
    (one_bundle_verdict net h.0).not_both k.1 h.2 (subst (λ (es : List PlainEvidence). IsFirstRefused net es k.1) same k.3)

either : (contents : PlainDocument) (net : PlainNet) (bytes : List ℕ) (status : Status) (text : List ℕ) → OfEvidence contents net bytes status text → (status ≡ Done) ⊎ (status ≡ EvidenceFault)
either contents net bytes Done text h = inl refl
either contents net bytes EvidenceFault text h = inr refl
either contents net bytes status text h = absurd h

claims_or_fault : (contents : PlainDocument) (net : PlainNet) (bytes text line : List ℕ) → ReportsClaims contents net bytes text → ReportsEvidenceLine bytes line ⊎ ReportsRefusal net bytes line → ⊥
claims_or_fault contents net bytes text line h (inl k) = k.0 h.0 h.1
claims_or_fault contents net bytes text line h (inr k) = claims_or_refusal contents net bytes text line h k

-- one fault is reported
same_fault : (net : PlainNet) (bytes : List ℕ) (text line : List ℕ) → ReportsEvidenceLine bytes text ⊎ ReportsRefusal net bytes text → ReportsEvidenceLine bytes line ⊎ ReportsRefusal net bytes line → text ≡ line
same_fault net bytes text line (inl h) (inl k) = one_report (codes "evidence line ") bytes text line h k
same_fault net bytes text line (inl h) (inr k) = absurd (h.0 k.0 k.2)
same_fault net bytes text line (inr h) (inl k) = absurd (k.0 h.0 h.2)
same_fault net bytes text line (inr h) (inr k) =
    let same = one_bundle h.0 k.0 bytes h.2 k.2 in
    h.4 ∙ ap refusal_line ((one_bundle_verdict net k.0).one_refusal h.1 k.1 (subst (λ (es : List PlainEvidence). IsFirstRefused net es h.1) same h.3) k.3) ∙ sym k.4

-- and one text of claims
same_claims : (contents : PlainDocument) (net : PlainNet) (bytes text line : List ℕ) → ReportsClaims contents net bytes text → ReportsClaims contents net bytes line → text ≡ line
same_claims contents net bytes text line h k = h.4 ∙ ap (claim_lines contents) (one_bundle h.0 k.0 bytes h.1 k.1) ∙ sym k.4

some : (contents : PlainDocument) (net : PlainNet) (bytes : List ℕ) → HasAnswer (OfEvidence contents net bytes)
some contents net bytes = elim (bundle_or_bad_line bytes) [
  | inr bad ↦ (EvidenceFault, numbered (codes "evidence line ") bad.1, inl (bad.0, bad.1, bad.2, refl))
  | inl e ↦ elim ((one_bundle_verdict net e.0).supported_or_refused (well_formed_claims e.0 bytes e.1)) [
    | inl supported ↦ (Done, claim_lines contents e.0, (e.0, e.1, supported, all_true net e.0 supported, refl))
    | inr refused ↦ (EvidenceFault, refusal_line refused.0, inr (e.0, refused.0, e.1, refused.1, refl))
  ]
]

pub of_evidence : (contents : PlainDocument) (net : PlainNet) (bytes : List ℕ) → IsAnswered ⊤ (OfEvidence contents net bytes) (λ status. ⊥)
of_evidence contents net bytes = one_of_two (OfEvidence contents net bytes) (λ status. ⊥) Done EvidenceFault refl refl
    (either contents net bytes) (claims_or_fault contents net bytes)
    (λ text line determined. same_claims contents net bytes text line) (λ text line determined. same_fault net bytes text line) (λ given. some contents net bytes)

pub verify_judged : IsAnsweredByDocument OfVerify (λ contents bytes status. ⊥)
verify_judged doc contents says bytes =
    let (net, built, is, civil) = every_net contents (its_document doc contents says) in
    by_the_one (IsNetOf contents) (one_net contents) (λ net. OfEvidence contents net bytes) net built (of_evidence contents net bytes)

pub verify_answered : (name evidence : List ℕ) → AreAnswered (verify_rows name evidence) NeverFree
verify_answered name evidence = judged_answered_once name (evidence_file evidence) OfVerify verify_judged
