-- What the rows of a document have, by what its contents are answered; and those of a document and another file.
use Rattle.std.proofs.Common.{◌⊎◌, ◌≤◌, ℕ, List, [], ◌∷◌, length, refl, sym, ap, ◌∙◌, inl, inr}
use Rattle.std.specs.Prelude.{⊤}
use Rattle.net_core.specs.Limits.{max_document}
use Rattle.tml_accept.specs.Acceptance.{Accepted, Says}
use Rattle.tml_accept.proofs.Judged.{every_document}
use Rattle.tml_accept.proofs.Phases.{accepted_or_fault, one_document}
use Rattle.tml_refs.specs.Documents.{PlainDocument}
use Rattle.runs.specs.declared.status.Status.{Status}
use Rattle.runs.specs.declared.status.Status.TheVariants.{DocFault}
use Rattle.runs.specs.OneFile.{of_its_bytes}
use Rattle.runs.specs.OneReply.{is_aborted}
use Rattle.runs.specs.Rows.{File, NeverFree}
use Rattle.runs.proofs.Answering.{Answer, AreAnswered, HasAnswer, IsAnswered, IsAnsweredAfter, IsDecisive, by_the_one, freed, given_by, left_only, right_only}
use Rattle.runs.proofs.OneFile.{answered, freer}
use Rattle.runs.proofs.TwoFiles.{both_answered, both_answered_once, refused_first}
use Rattle.answers.specs.Documents.{Contents, IsDocumentRefused, doc_file, document_rows, of_contents, of_its_contents}
use Rattle.answers.proofs.Answering.{ContentsAreAnswered, IsAnsweredByDocument}
use Rattle.answers.specs.Judged.{Judgements, JudgesFirst, documents, judged_rows, of_judged}
use Rattle.answers.specs.Lines.{fault_line}
use Rattle.answers.proofs.Refusals.{one_refusal}

-- ---- one document

-- the refusal of a document is one answer
refusal : (doc : List ℕ) (IsGiven : Type 0) (IsFree : Status → Type 0) → (IsGiven → HasAnswer (IsDocumentRefused doc)) → IsAnswered IsGiven (IsDocumentRefused doc) IsFree
refusal doc IsGiven IsFree some = record {
  some = some;
  one_status = λ status other text line h k. h.0 ∙ sym k.0;
  whole = λ status text h. ap is_aborted h.0;
  one_text = λ status text line determined h k. one_refusal doc status status text line h k;
}

-- a document that is not refused has an answer, where this is one of each that is accepted
pub refused_or : (doc : List ℕ) (Of : Answer) (IsFree : Status → Type 0) → ((status : Status) (text : List ℕ) → Of status text → Accepted doc) → (Accepted doc → IsAnswered ⊤ Of IsFree)
    → IsAnswered ⊤ (λ status text. IsDocumentRefused doc status text ⊎ Of status text) IsFree
refused_or doc Of IsFree accepts are = elim (every_document doc) [
  | inl accepted ↦ right_only (are accepted) (IsDocumentRefused doc) (λ status text refused. accepted_or_fault doc refused.1.0 refused.1.1 accepted refused.1.2)
  | inr fault ↦ left_only (refusal doc ⊤ IsFree (λ given. (DocFault, fault_line fault.0 fault.1, (refl, (fault.0, fault.1, fault.2, refl))))) Of
      (λ status text h. accepted_or_fault doc fault.0 fault.1 (accepts status text h) fault.2)
]

pub contents_answered : (Of : Contents) (IsFree : PlainDocument → Status → Type 0) → ContentsAreAnswered Of IsFree → (doc : List ℕ) → IsAnswered ⊤ (of_contents Of doc) (of_its_contents IsFree doc)
contents_answered Of IsFree are doc =
    refused_or doc (λ status text. (contents : PlainDocument) × Says doc contents × Of contents status text) (of_its_contents IsFree doc) (λ status text h. (h.0, h.1)) (λ accepted.
    by_the_one (Says doc) (one_document doc) Of accepted.0 accepted.1
    (freed (are doc accepted.0 accepted.1) (of_its_contents IsFree doc) (λ status free. (accepted.0, accepted.1, free))))

-- no contents leave a text open
abbrev Never : List ℕ → Status → Type 0
Never = of_its_contents (λ contents status. ⊥)

-- the rows of a command that is asked of a document, of which every text is determined
pub document_answered : (Of : Contents) → ContentsAreAnswered Of (λ contents status. ⊥) → (name : List ℕ) → AreAnswered (document_rows Of name) NeverFree
document_answered Of are name = freer (document_rows Of name) (of_its_bytes Never) NeverFree none (answered (doc_file name) (of_contents Of) Never (contents_answered Of (λ contents status. ⊥) are))
  where
    none : (contents : List (List ℕ)) (status : Status) → of_its_bytes Never contents status → ⊥
    none (doc ∷ []) status free = free.2
    none contents status free = free

-- ---- a document and another file

-- a document is accepted, or has one refusal
documents_judged : IsDecisive max_document documents
documents_judged = record {
  some = λ doc short. elim (every_document doc) [
    | inl accepted ↦ inl accepted
    | inr fault ↦ inr (DocFault, fault_line fault.0 fault.1, (refl, (fault.0, fault.1, fault.2, refl)))
  ];
  not_both = λ doc status text accepted refused. accepted_or_fault doc refused.1.0 refused.1.1 accepted refused.1.2;
  one_said = λ doc contents other says too. one_document doc contents other says too;
  refusal = λ doc. refusal doc (HasAnswer (IsDocumentRefused doc)) (λ status. ⊥) (λ given. given);
}

-- an answer that always is, where both files are within their limits
within : (limit : ℕ) (Of : Judgements) (IsFree : PlainDocument → List ℕ → Status → Type 0) → IsAnsweredByDocument Of IsFree → IsAnsweredAfter documents max_document limit Of IsFree
within limit Of IsFree are doc contents says bytes = given_by (are doc contents says bytes) ((length doc ≤ max_document) × (length bytes ≤ limit)) (λ short. tt)

-- the rows of a command that is asked of a document and another file
pub judged_answered : (name : List ℕ) (file : File) (Of : Judgements) (IsFree : PlainDocument → List ℕ → Status → Type 0) → IsAnsweredByDocument Of IsFree → AreAnswered (judged_rows name file Of) (of_judged IsFree)
judged_answered name file Of IsFree are = both_answered documents (doc_file name) file Of IsFree documents_judged (within file.limit Of IsFree are)

-- and of one of which every text is determined
pub judged_answered_once : (name : List ℕ) (file : File) (Of : Judgements) → IsAnsweredByDocument Of (λ contents other status. ⊥) → AreAnswered (judged_rows name file Of) NeverFree
judged_answered_once name file Of are = both_answered_once documents (doc_file name) file Of documents_judged (within file.limit Of (λ contents other status. ⊥) are)

-- such rows judge the document first
pub judges_first : (name : List ℕ) (file : File) (Of : Judgements) → JudgesFirst name (judged_rows name file Of)
judges_first name file Of = λ files doc kind place known fits fault. refused_first documents files (doc_file name) file Of doc known fits (λ accepted. accepted_or_fault doc kind place accepted fault)
