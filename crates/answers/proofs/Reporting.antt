-- Answers that report a word.
use Rattle.std.proofs.Common.{◌≡◌, ℕ, List, Option, Some, None, IsNone, Result, Ok, Err, IfOk, refl, sym, subst, rules}
use Rattle.runs.specs.View.{finding_status}
use Rattle.runs.specs.declared.answer.Answer.{Answer}
use Rattle.runs.specs.declared.answer.Finding.{Finding}
use Rattle.runs.specs.declared.status.Status.{Status}

-- there is nothing
pub is_none : {A : Type 0} (o : Option A) → ((x : A) → o ≡ Some x → ⊥) → IsNone o
is_none None not = search rules
is_none (Some x) not = absurd (not x refl)

-- an answer with this finding and this text
pub reported : {E : Type 0} (P : Status → List ℕ → Type 0) (result : Result Answer E) (finding : Finding) (text : List ℕ)
    → IfOk result (λ answer. answer.finding ≡ finding) → IfOk result (λ answer. answer.text.items ≡ text) → P (finding_status finding) text
    → IfOk result (λ answer. P (finding_status answer.finding) answer.text.items)
reported P (Ok answer) finding text f t p = subst (λ (x : Finding). P (finding_status x) answer.text.items) (sym f) (subst (P (finding_status finding)) (sym t) p)
reported P (Err e) finding text f t p = tt
