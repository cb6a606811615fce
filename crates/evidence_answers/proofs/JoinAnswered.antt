-- Two files of evidence have one text of all their claims, or the first one that is malformed has one bad line.
use Rattle.std.proofs.Common.{◌≡◌, ◌⊎◌, ◌≤◌, ℕ, List, ◌++◌, codes, length, refl, sym, ap, ◌∙◌, inl, inr, arith}
use Rattle.std.specs.List.{concat}
use Rattle.evidence_format.specs.Bundles.{IsTextOfEither, bundle_lines}
use Rattle.evidence_format.specs.Evidence.{PlainEvidence}
use Rattle.evidence_format.proofs.Claims.{both_have_text}
use Rattle.evidence_format.proofs.Reading.{bundle_or_bad_line}
use Rattle.net_core.specs.Limits.{max_evidence}
use Rattle.runs.specs.Rows.{NeverFree}
use Rattle.runs.specs.OneReply.{is_aborted}
use Rattle.runs.proofs.Answering.{AreAnswered, HasAnswer, IsAnsweredAfter, IsDecisive, one_of_two}
use Rattle.runs.specs.declared.status.Status.{Status}
use Rattle.runs.specs.declared.status.Status.TheVariants.{Done, EvidenceFault}
use Rattle.runs.proofs.TwoFiles.{both_answered_once}
use Rattle.answers.specs.Lines.{numbered}
use Rattle.evidence_answers.specs.Files.{evidence_file, second_file}
use Rattle.evidence_answers.specs.Join.{IsJoinText, OfSecond, evidence, join_rows}
use Rattle.evidence_answers.proofs.Files.{one_bundle, one_report}

-- a first file is evidence, or has one bad line
evidence_judged : IsDecisive max_evidence evidence
evidence_judged = record {
  some = λ bytes short. elim (bundle_or_bad_line bytes) [
    | inl e ↦ inl e
    | inr bad ↦ inr (EvidenceFault, numbered (codes "evidence line ") bad.1, (refl, (bad.0, bad.1, bad.2, refl)))
  ];
  not_both = λ bytes status text says refused. refused.1.0 says.0 says.1;
  one_said = λ bytes es ds h k. one_bundle es ds bytes h k;
  refusal = λ bytes. record {
    some = λ refused. refused;
    one_status = λ status other text line h k. h.0 ∙ sym k.0;
    whole = λ status text h. ap is_aborted h.0;
    one_text = λ status text line determined h k. one_report (codes "evidence line ") bytes text line h.1 k.1;
  };
}

some : (one : List ℕ) → length one ≤ max_evidence → (es : List PlainEvidence) → IsTextOfEither es one → (other : List ℕ) → length other ≤ max_evidence → HasAnswer (OfSecond es other)
some one short es says other few = elim (bundle_or_bad_line other) [
  | inl e ↦ (Done, concat (bundle_lines (es ++ e.0)), (e.0, e.1, both_have_text es e.0 one other says e.1 (omega (arith, short, few))))
  | inr bad ↦ (EvidenceFault, numbered (codes "second line ") bad.1, (bad.0, bad.1, bad.2, refl))
]

either : (es : List PlainEvidence) (bytes : List ℕ) (status : Status) (text : List ℕ) → OfSecond es bytes status text → (status ≡ Done) ⊎ (status ≡ EvidenceFault)
either es bytes Done text h = inl refl
either es bytes EvidenceFault text h = inr refl
either es bytes status text h = absurd h

one_join : (es : List PlainEvidence) (bytes text line : List ℕ) → IsJoinText es bytes text → IsJoinText es bytes line → text ≡ line
one_join es bytes text line h k = h.2.1 ∙ ap (λ (more : List PlainEvidence). concat (bundle_lines (es ++ more))) (one_bundle h.0 k.0 bytes h.1 k.1) ∙ sym k.2.1

second_answered : IsAnsweredAfter evidence max_evidence max_evidence OfSecond (λ es other status. ⊥)
second_answered one es says other = one_of_two (OfSecond es other) (λ status. ⊥) Done EvidenceFault refl refl (either es other) (λ text line h k. k.0 h.0 h.1)
    (λ text line determined. one_join es other text line) (λ text line determined. one_report (codes "second line ") other text line)
    (λ short. some one short.0 es says other short.1)

pub join_answered : (name other : List ℕ) → AreAnswered (join_rows name other) NeverFree
join_answered name other = both_answered_once evidence (evidence_file name) (second_file other) OfSecond evidence_judged second_answered
