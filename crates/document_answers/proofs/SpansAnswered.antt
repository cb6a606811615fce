-- Every document has one table of its units, or one fault of the cut.
use Rattle.std.proofs.Common.{◌≡◌, ◌⊎◌, ℕ, List, [], refl, sym, ap, subst, ◌∙◌, inl, inr}
use Rattle.std.specs.Prelude.{⊤}
use Rattle.answers.specs.Documents.{doc_file}
use Rattle.answers.specs.Lines.{fault_line}
use Rattle.answers.proofs.Refusals.{one_fault_line}
use Rattle.tml_accept.proofs.Phases.{One}
use Rattle.runs.specs.Rows.{NeverFree}
use Rattle.runs.specs.declared.status.Status.{Status}
use Rattle.runs.specs.declared.status.Status.TheVariants.{Done, DocFault}
use Rattle.runs.proofs.Answering.{AreAnswered, HasAnswer, IsAnswered, one_of_two}
use Rattle.runs.proofs.OneFile.{answered_once}
use Rattle.tml_span.specs.Cutting.{Cuts}
use Rattle.tml_span.specs.Faults.{CutFault}
use Rattle.tml_span.specs.Whole.{Cutting, IsWhole}
use Rattle.tml_span.proofs.CutOrFault.{cut_or_fault}
use Rattle.tml_span.proofs.Excluding.{one_faults}
use Rattle.tml_span.proofs.OneCut.{one_cut_from}
use Rattle.document_answers.specs.Spans.{HasTable, OfSpans, spans_rows, unit_table}

-- a document has one cutting
one_cutting : (doc : List ℕ) (c d : Cutting) → c.source ≡ doc → d.source ≡ doc → IsWhole c → IsWhole d → c ≡ d
one_cutting doc c d e k h g =
    let source = e ∙ sym k in
    let units = (one_cut_from 0 d.source c.units d.units [] [] (subst (λ (bytes : List ℕ). Cuts bytes c.units []) source h.1) g.1).0 in
    λ i. record { source = source i; units = units i }

one_table : (doc table other : List ℕ) → HasTable doc table → HasTable doc other → table ≡ other
one_table doc table other h k =
    let c : Cutting = record { source = doc; units = h.0 } in
    let d : Cutting = record { source = doc; units = k.0 } in
    h.2 ∙ ap (λ (x : Cutting). unit_table x.units) (one_cutting doc c d refl refl h.1 k.1) ∙ sym k.2

-- a document has one fault of the cut
one_cut_fault : (doc : List ℕ) → One (λ kind place. CutFault doc place kind)
one_cut_fault doc = λ kind other place at h k. let same = (one_faults doc).one_fault place at kind other h k in (same.1, same.0)

some : (doc : List ℕ) → HasAnswer (OfSpans doc)
some doc = elim (cut_or_fault doc) [
  | inl cut ↦ (Done, unit_table cut.0, (cut.0, cut.1, refl))
  | inr fault ↦ (DocFault, fault_line fault.1 fault.0, (fault.1, fault.0, fault.2, refl))
]

either : (doc : List ℕ) (status : Status) (text : List ℕ) → OfSpans doc status text → (status ≡ Done) ⊎ (status ≡ DocFault)
either doc Done text h = inl refl
either doc DocFault text h = inr refl
either doc status text h = absurd h

units : (doc : List ℕ) → IsAnswered ⊤ (OfSpans doc) (λ status. ⊥)
units doc = one_of_two (OfSpans doc) (λ status. ⊥) Done DocFault refl refl (either doc) (λ text line h k. (one_faults doc).whole_or_fault h.0 k.1 k.0 h.1 k.2)
    (λ text line determined. one_table doc text line) (λ text line determined. one_fault_line (λ kind place. CutFault doc place kind) text line (one_cut_fault doc)) (λ given. some doc)

pub spans_answered : (name : List ℕ) → AreAnswered (spans_rows name) NeverFree
spans_answered name = answered_once (doc_file name) OfSpans units
