-- Refused evidence is answered by its refusal.
use Rattle.std.proofs.Common.{◌≡◌, ℕ, List, Result, Ok, Err, inr, sym, subst}
use Rattle.std.specs.Prelude.{IfOk}
use Rattle.evidence_check.specs.Bundles.{IsFirstRefused}
use Rattle.evidence_check.specs.declared.refusal.RefusedClaim.{RefusedClaim}
use Rattle.evidence_format.specs.Bundles.{IsTextOfEither}
use Rattle.evidence_format.specs.Evidence.{PlainEvidence}
use Rattle.net_build.specs.Built.{IsNetOf}
use Rattle.net_core.specs.Nets.{PlainNet}
use Rattle.tml_refs.specs.Documents.{PlainDocument}
use Rattle.runs.specs.View.{finding_status}
use Rattle.runs.specs.declared.answer.Answer.{Answer}
use Rattle.runs.specs.declared.answer.Finding.{Finding as FindingOf}
use Rattle.runs.specs.declared.answer.Finding.TheVariants as Finding
use Rattle.evidence_answers.specs.Texts.{refusal_line}
use Rattle.evidence_answers.specs.Verify.{OfVerify}

pub refused : {E : Type 0} (contents : PlainDocument) (net : PlainNet) (bytes : List ℕ) (es : List PlainEvidence) (claim : RefusedClaim) (r : Result Answer E)
    → IsNetOf contents net → IsTextOfEither es bytes → IsFirstRefused net es claim
    → IfOk r (λ answer. answer.finding ≡ Finding.EvidenceFault) → IfOk r (λ answer. answer.text.items ≡ refusal_line claim)
    → IfOk r (λ answer. OfVerify contents bytes (finding_status answer.finding) answer.text.items)
refused contents net bytes es claim (Ok answer) built is first found text =
    subst (λ (f : FindingOf). OfVerify contents bytes (finding_status f) answer.text.items) (sym found) (net, built, inr (es, claim, is, first, text))
refused contents net bytes es claim (Err error) built is first found text = tt
