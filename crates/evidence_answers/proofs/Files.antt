-- Evidence has one value, or one bad line.
use Rattle.std.proofs.Common.{◌≡◌, ℕ, List, Result, Ok, Err, sym, ap, subst, ◌∙◌}
use Rattle.std.specs.Prelude.{IfOk}
use Rattle.runs.specs.OneFile.{Answers}
use Rattle.runs.specs.View.{finding_status}
use Rattle.runs.specs.declared.answer.Answer.{Answer}
use Rattle.runs.specs.declared.answer.Finding.{Finding as FindingOf}
use Rattle.runs.specs.declared.answer.Finding.TheVariants as Finding
use Rattle.runs.specs.declared.status.Status.TheVariants as Status
use Rattle.evidence_format.specs.Bundles.{IsBadLineOfEither, IsTextOfEither}
use Rattle.evidence_format.specs.Evidence.{PlainEvidence}
use Rattle.evidence_format.proofs.Reading.{bundles, one_bad_of_either}
use Rattle.line_texts.proofs.Reading.{one_of_texts}
use Rattle.answers.specs.Lines.{numbered}
use Rattle.evidence_answers.specs.Files.{ReportsLine}

-- a text is that of one list of claims at most
pub one_bundle : (ds es : List PlainEvidence) (bytes : List ℕ) → IsTextOfEither ds bytes → IsTextOfEither es bytes → ds ≡ es
one_bundle ds es bytes h k = one_of_texts bundles ds es bytes h k

-- its bad line is reported by one text
pub one_report : (words bytes text line : List ℕ) → ReportsLine words bytes text → ReportsLine words bytes line → text ≡ line
one_report words bytes text line h k = h.3 ∙ ap (numbered words) (one_bad_of_either bytes h.1 k.1 h.2 k.2) ∙ sym k.3

-- malformed evidence is answered by its bad line
pub malformed : {E : Type 0} (Of : Answers) (words bytes : List ℕ) (line : ℕ) (r : Result Answer E) → ((text : List ℕ) → ReportsLine words bytes text → Of bytes Status.EvidenceFault text)
    → ((es : List PlainEvidence) → IsTextOfEither es bytes → ⊥) → IsBadLineOfEither bytes line
    → IfOk r (λ answer. answer.finding ≡ Finding.EvidenceFault) → IfOk r (λ answer. answer.text.items ≡ numbered words line)
    → IfOk r (λ answer. Of bytes (finding_status answer.finding) answer.text.items)
malformed Of words bytes line (Ok answer) reports none bad found text =
    subst (λ (f : FindingOf). Of bytes (finding_status f) answer.text.items) (sym found) (reports answer.text.items (none, line, bad, text))
malformed Of words bytes line (Err error) reports none bad found text = tt
