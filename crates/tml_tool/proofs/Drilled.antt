-- The reply to a drill: no file is read for it.
use Rattle.std.proofs.Common.{◌≡◌, ℕ, List, [], Result, Some, None, sym, ap, ◌∙◌}
use Rattle.std.specs.Prelude.{IfOk, is_some}
use Rattle.std.proofs.lemmas.Result.{IfOk-weaker}
use Rattle.answers.specs.Commands.{argument}
use Rattle.order_answers.specs.Drill.{OfDrill, drill_number}
use Rattle.tml_io.specs.Known.{KnownInputs}
use Rattle.runs.specs.Replied.{IsReplyTo}
use Rattle.runs.specs.Rows.{answers}
use Rattle.runs.specs.View.{finding_status, reply_of, status_of, text_of}
use Rattle.runs.specs.declared.answer.Answer.{Answer}
use Rattle.runs.proofs.Replied.{by_none, ends_by}
use Rattle.tml_tool.specs.declared.commands.Form.TheVariants.{Drill}
use Rattle.tml_tool.specs.Commands.{limits_of, rows_of, rows_with, taken_form}
use Rattle.tml_tool.proofs.Asked.{along, by_no_test, by_test}

-- the argument is the number of a drill
pub a_drill : (given : List (List ℕ)) (n : ℕ) → Some n ≡ drill_number (argument given 0) → taken_form Drill given ≡ Some (Drill, given)
a_drill given n e = by_test (is_some (drill_number (argument given 0))) (Some (Drill, given)) (ap is_some (sym e))

-- it is not
pub no_drill : (given : List (List ℕ)) → None ≡ drill_number (argument given 0) → taken_form Drill given ≡ None
no_drill given e = by_no_test (is_some (drill_number (argument given 0))) (Some (Drill, given)) (λ is. cc (ap is_some e ∙ is))

pub drill_replied : {S E : Type 0} (known : S → KnownInputs) (now : S) (given : List (List ℕ)) (n : ℕ) (r : Result Answer E)
    → Some n ≡ drill_number (argument given 0) → IfOk r (λ answer. OfDrill n (finding_status answer.finding) answer.text.items)
    → IsReplyTo known (rows_of (taken_form Drill given)) (limits_of (taken_form Drill given)) now now (status_of (reply_of r)) (text_of (reply_of r))
drill_replied known now given n r e of =
    let rows = rows_with Drill given in
    let ends = IfOk-weaker r (λ (answer : Answer). OfDrill n (finding_status answer.finding) answer.text.items) (λ (answer : Answer). rows [] (answers (finding_status answer.finding) answer.text.items)) (λ answer is. (n, sym e, is)) of in
    along known (taken_form Drill given) (Some (Drill, given)) now now (status_of (reply_of r)) (text_of (reply_of r)) (a_drill given n e)
    (by_none known rows now (status_of (reply_of r)) (text_of (reply_of r)) (ends_by rows [] r ends))
