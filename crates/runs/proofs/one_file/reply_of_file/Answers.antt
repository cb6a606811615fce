use Rattle.std.proofs.Common.{[], ◌∷◌, refl}
use Rattle.runs.specs.OneFile.{of_one_file}
use Rattle.runs.specs.Roles.{file_of}
use Rattle.runs.specs.Rows.{Rows}
use Rattle.runs.proofs.Replied.{by_failing, by_one, ends_by}
use Rattle.runs.proofs.one_file.reply_of_file.Goals as goal

pub returns-in-Ok-clause-reply : goal.returns-in-Ok-clause-reply
returns-in-Ok-clause-reply g c =
    let file = file_of c.args.role c.args.name.now in
    let rows : Rows = of_one_file file (g.A.FileQuery.says c.args.asked.now) in
    let answer = rw c.as_slice.ensures at c.answer.ensures in
    rw c.from_answer.ensures (by_one _ rows file [] _ _ refl _ _ _ c.in-Ok.ensures (ends_by rows (_ ∷ []) c.answer.result answer))

pub returns-in-Err-clause-reply : goal.returns-in-Err-clause-reply
returns-in-Err-clause-reply g c =
    let file = file_of c.args.role c.args.name.now in
    let rows : Rows = of_one_file file (g.A.FileQuery.says c.args.asked.now) in
    by_failing _ rows file [] _ _ refl _ c.in-Err.ensures
