-- What a document has is one text.
use Rattle.std.proofs.Common.{◌≡◌, ℕ, List, refl, sym, ◌∙◌}
use Rattle.answers.proofs.Answered.{document_answered}
use Rattle.tml_refs.specs.Documents.{PlainDocument}
use Rattle.runs.specs.Rows.{NeverFree}
use Rattle.runs.specs.declared.status.Status.{Status}
use Rattle.runs.specs.declared.status.Status.TheVariants.{Done}
use Rattle.runs.proofs.Answering.{AreAnswered, one_answer}
use Rattle.document_answers.specs.Check.{OfCheck, accepted, check_rows}

done : (contents : PlainDocument) (status : Status) (text : List ℕ) → OfCheck contents status text → status ≡ Done
done contents Done text h = refl
done contents status text h = absurd h

pub check_answered : (name : List ℕ) → AreAnswered (check_rows name) NeverFree
check_answered name =
    document_answered OfCheck (λ doc contents says. one_answer (OfCheck contents) (λ status. ⊥) Done refl (done contents) (λ text line determined h k. h ∙ sym k) (accepted contents) refl) name
