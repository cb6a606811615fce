use Rattle.std.proofs.Common.{[], ◌∷◌, refl, sym, ◌∙◌}
use Rattle.std.proofs.lemmas.Result.{IfOk-weaker}
use Rattle.evidence_format.proofs.Claims.{are_claims}
use Rattle.runs.specs.Rows.{Rows}
use Rattle.runs.specs.TwoFiles.{after_first}
use Rattle.runs.specs.View.{finding_status}
use Rattle.runs.proofs.Replied.{by_both, by_failing, by_failing_second, by_one, ends_by}
use Rattle.runs.proofs.TwoFiles.{ends_refused}
use Rattle.evidence_answers.specs.Files.{evidence_file, second_file}
use Rattle.evidence_answers.specs.Join.{OfSecond, evidence, join_rows}
use Rattle.evidence_answers.proofs.join.reply_of_join.Goals as goal

pub returns-in-Err-clause-reply : goal.returns-in-Err-clause-reply
returns-in-Err-clause-reply g c =
    let second = second_file c.args.other.now in
    let rows : Rows = join_rows c.args.name.now c.args.other.now in
    by_failing g.I.Inputs.known rows (evidence_file c.args.name.now) (second.limit ∷ []) _ _ refl _ c.in-Err.ensures

pub returns-in-Err-bodies_of-clause-reply : goal.returns-in-Err-bodies_of-clause-reply
returns-in-Err-bodies_of-clause-reply g c =
    let second = second_file c.args.other.now in
    let rows : Rows = join_rows c.args.name.now c.args.other.now in
    let refusal = rw c.as_slice.ensures at c.in-Err-bodies_of.ensures.err in
    by_one g.I.Inputs.known rows (evidence_file c.args.name.now) (second.limit ∷ []) _ _ refl _ _ _ c.in-Ok.ensures
    (ends_refused evidence rows _ _ _ (λ line. line) (λ line e. cc (sym e ∙ line.0)) refusal)

pub returns-in-Ok-read-clause-reply : goal.returns-in-Ok-read-clause-reply
returns-in-Ok-read-clause-reply g c =
    let second = second_file c.args.other.now in
    let rows : Rows = join_rows c.args.name.now c.args.other.now in
    let given = rw c.as_slice.ensures at c.in-Ok-bodies_of.ensures.ok in
    let es = given.0 in
    let says = given.1 in
    let are = are_claims es c.in-Ok.first says in
    let verdict = rw c.as_slice-in-Ok-read.ensures at c.joined.ensures in
    let answer = IfOk-weaker c.joined.result _ (λ answer. after_first evidence OfSecond c.in-Ok.first c.in-Ok-read.second (finding_status answer.finding) answer.text.items) (λ answer told. (es, says, told es are given.2)) verdict in
    rw c.from_answer.ensures (by_both g.I.Inputs.known rows (evidence_file c.args.name.now) (second.limit ∷ []) _ _ refl second _ _ c.in-Ok.ensures ((es, says), refl)
    _ _ _ c.in-Ok-read.ensures (ends_by rows (_ ∷ _ ∷ []) c.joined.result answer))

pub returns-clause-reply : goal.returns-clause-reply
returns-clause-reply g c =
    let second = second_file c.args.other.now in
    let rows : Rows = join_rows c.args.name.now c.args.other.now in
    let given = rw c.as_slice.ensures at c.in-Ok-bodies_of.ensures.ok in
    by_failing_second g.I.Inputs.known rows (evidence_file c.args.name.now) (second.limit ∷ []) _ _ refl second _ _ c.in-Ok.ensures ((given.0, given.1), refl)
    _ c.in-Err-read.ensures
