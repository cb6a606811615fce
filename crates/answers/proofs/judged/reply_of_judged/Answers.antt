use Rattle.answers.specs.Documents.{doc_file}
use Rattle.answers.specs.Judged.{documents, judged_rows}
use Rattle.std.proofs.Common.{[], ◌∷◌, refl, sym, ◌∙◌}
use Rattle.std.proofs.lemmas.Result.{IfOk-weaker}
use Rattle.runs.specs.Roles.{file_of}
use Rattle.runs.specs.Rows.{Rows}
use Rattle.runs.specs.TwoFiles.{after_first}
use Rattle.runs.specs.View.{finding_status}
use Rattle.runs.proofs.Replied.{by_both, by_failing, by_failing_second, by_one, ends_by}
use Rattle.runs.proofs.TwoFiles.{ends_refused}
use Rattle.answers.proofs.judged.reply_of_judged.Goals as goal

pub returns-in-Err-clause-reply : goal.returns-in-Err-clause-reply
returns-in-Err-clause-reply g c =
    let rows : Rows = judged_rows c.args.name.now (file_of c.args.role c.args.other.now) (g.A.JudgedQuery.says c.args.asked.now) in
    by_failing g.I.Inputs.known rows (doc_file c.args.name.now) (c.args.role.limit ∷ []) _ _ refl _ c.in-Err.ensures

pub returns-in-Err-document_of-clause-reply : goal.returns-in-Err-document_of-clause-reply
returns-in-Err-document_of-clause-reply g c =
    let rows : Rows = judged_rows c.args.name.now (file_of c.args.role c.args.other.now) (g.A.JudgedQuery.says c.args.asked.now) in
    let refusal = rw c.as_slice.ensures at c.in-Err-document_of.ensures.err in
    by_one g.I.Inputs.known rows (doc_file c.args.name.now) (c.args.role.limit ∷ []) _ _ refl _ _ _ c.in-Ok.ensures
    (ends_refused documents rows _ _ _ (λ line. line) (λ line e. cc (sym e ∙ line.0)) refusal)

pub returns-in-Ok-read-clause-reply : goal.returns-in-Ok-read-clause-reply
returns-in-Ok-read-clause-reply g c =
    let rows : Rows = judged_rows c.args.name.now (file_of c.args.role c.args.other.now) (g.A.JudgedQuery.says c.args.asked.now) in
    let says = rw c.as_slice.ensures at c.in-Ok-document_of.ensures.ok in
    let verdict = rw c.as_slice-in-Ok-read.ensures at c.answer.ensures in
    let answer = IfOk-weaker c.answer.result _ (λ answer. after_first documents (g.A.JudgedQuery.says c.args.asked.now) c.in-Ok.doc c.in-Ok-read.text (finding_status answer.finding) answer.text.items) (λ answer told. (_, says, told)) verdict in
    rw c.from_answer.ensures (by_both g.I.Inputs.known rows (doc_file c.args.name.now) (c.args.role.limit ∷ []) _ _ refl (file_of c.args.role c.args.other.now) _ _ c.in-Ok.ensures ((_, says), refl)
    _ _ _ c.in-Ok-read.ensures (ends_by rows (_ ∷ _ ∷ []) c.answer.result answer))

pub returns-clause-reply : goal.returns-clause-reply
returns-clause-reply g c =
    let rows : Rows = judged_rows c.args.name.now (file_of c.args.role c.args.other.now) (g.A.JudgedQuery.says c.args.asked.now) in
    let says = rw c.as_slice.ensures at c.in-Ok-document_of.ensures.ok in
    by_failing_second g.I.Inputs.known rows (doc_file c.args.name.now) (c.args.role.limit ∷ []) _ _ refl (file_of c.args.role c.args.other.now) _ _ c.in-Ok.ensures ((_, says), refl)
    _ c.in-Err-read.ensures
