-- Documents that are refused.
use Rattle.std.proofs.Common.{◌≡◌, ℕ, List, sym, ◌∙◌}
use Rattle.faults.specs.declared.kind.FaultKind.{FaultKind}
use Rattle.tml_accept.specs.Acceptance.{FirstFault}
use Rattle.tml_accept.proofs.Phases.{One, one_fault}
use Rattle.runs.specs.declared.status.Status.{Status}
use Rattle.answers.specs.Documents.{IsDocumentRefused}
use Rattle.answers.specs.Lines.{HasFaultLine, fault_line}

-- a fault has one line
pub one_fault_line : (Fault : FaultKind → ℕ → Type 0) (text other : List ℕ) → One Fault → HasFaultLine Fault text → HasFaultLine Fault other → text ≡ other
one_fault_line Fault text other one h k = let same = one h.0 k.0 h.1 k.1 h.2 k.2 in h.3 ∙ (λ i. fault_line (same.0 i) (same.1 i)) ∙ sym k.3

-- a document is refused by one line
pub one_refusal : (doc : List ℕ) (status other : Status) (text line : List ℕ) → IsDocumentRefused doc status text → IsDocumentRefused doc other line → text ≡ line
one_refusal doc status other text line h k = one_fault_line (FirstFault doc) text line (one_fault doc) h.1 k.1
