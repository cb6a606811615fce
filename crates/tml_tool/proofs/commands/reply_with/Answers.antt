use Rattle.std.proofs.Common.{sym, ap, ◌∙◌}
use Rattle.order_answers.specs.Drill.{drill_number}
use Rattle.runs.specs.Words.{texts_of}
use Rattle.tml_tool.proofs.Asked.{next_argument, usage_replied}
use Rattle.tml_tool.proofs.Drilled.{drill_replied, no_drill}
use Rattle.tml_tool.proofs.commands.reply_with.Goals as goal

pub returns-in-Spans-clause-reply : goal.returns-in-Spans-clause-reply
returns-in-Spans-clause-reply g c = rw (c.in-Spans.is) (rw c.word-first.ensures at c.reply_of_file.ensures.reply)

pub returns-in-Check-clause-reply : goal.returns-in-Check-clause-reply
returns-in-Check-clause-reply g c = rw (c.in-Check.is) (rw c.word-first.ensures at c.reply_of_document.ensures.reply)

pub returns-in-Dates-clause-reply : goal.returns-in-Dates-clause-reply
returns-in-Dates-clause-reply g c = rw (c.in-Dates.is) (rw c.word-first.ensures at c.reply_of_document-in-Dates.ensures.reply)

pub returns-in-Solve-clause-reply : goal.returns-in-Solve-clause-reply
returns-in-Solve-clause-reply g c = rw (c.in-Solve.is) (rw c.word-first.ensures at c.reply_of_document-in-Solve.ensures.reply)

pub returns-in-Ask-clause-reply : goal.returns-in-Ask-clause-reply
returns-in-Ask-clause-reply g c =
    let given = texts_of c.args.arguments.now in
    rw (c.in-Ask.is, next_argument given 0, next_argument given 1, next_argument given 2) (rw (c.word-first.ensures, c.as_bytes.ensures.value, c.as_bytes-in-Ask.ensures.value, c.as_bytes-in-Ask-2.ensures.value, c.word.ensures, c.word-in-Ask.ensures, c.word-in-Ask-2.ensures) at c.reply_of_document-in-Ask.ensures.reply)

pub returns-in-Relations-clause-reply : goal.returns-in-Relations-clause-reply
returns-in-Relations-clause-reply g c = rw (c.in-Relations.is) (rw c.word-first.ensures at c.reply_of_document-in-Relations.ensures.reply)

pub returns-in-Canon-clause-reply : goal.returns-in-Canon-clause-reply
returns-in-Canon-clause-reply g c = rw (c.in-Canon.is) (rw c.word-first.ensures at c.reply_of_file-in-Canon.ensures.reply)

pub returns-in-Verify-clause-reply : goal.returns-in-Verify-clause-reply
returns-in-Verify-clause-reply g c = rw (c.in-Verify.is) (rw (c.word-first.ensures, c.word-in-Verify.ensures) at c.reply_of_judged.ensures.reply)

pub returns-in-Some-clause-reply : goal.returns-in-Some-clause-reply
returns-in-Some-clause-reply g c =
    let number = sym c.in-Some.is ∙ c.drill_number.ensures.number ∙ ap drill_number c.word-first.ensures in
    rw (c.in-Drill.is, c.from_answer.ensures) (drill_replied g.I.Inputs.known _ (texts_of c.args.arguments.now) c.in-Some.n c.drill_summary.result number c.drill_summary.ensures)

pub returns-in-None-clause-reply : goal.returns-in-None-clause-reply
returns-in-None-clause-reply g c =
    let none = no_drill (texts_of c.args.arguments.now) (sym c.in-None.is ∙ c.drill_number.ensures.number ∙ ap drill_number c.word-first.ensures) in
    rw (c.in-Drill.is) (usage_replied g.I.Inputs.known _ _ _ none c.usage_text.ensures)

pub returns-in-Renew-clause-reply : goal.returns-in-Renew-clause-reply
returns-in-Renew-clause-reply g c = rw (c.in-Renew.is) (rw c.word-first.ensures at c.reply_of_file-in-Renew.ensures.reply)

pub returns-in-Join-clause-reply : goal.returns-in-Join-clause-reply
returns-in-Join-clause-reply g c = rw (c.in-Join.is) (rw (c.word-first.ensures, c.word-in-Join.ensures) at c.reply_of_join.ensures.reply)

pub returns-in-Possible-clause-reply : goal.returns-in-Possible-clause-reply
returns-in-Possible-clause-reply g c =
    let given = texts_of c.args.arguments.now in
    rw (c.in-Possible.is, next_argument given 0, next_argument given 1) (rw (c.word-first.ensures, c.as_bytes-in-Possible.ensures.value, c.as_bytes-in-Possible-2.ensures.value, c.word-in-Possible.ensures, c.word-in-Possible-2.ensures) at c.reply_of_document-in-Possible.ensures.reply)

pub returns-in-Matrix-clause-reply : goal.returns-in-Matrix-clause-reply
returns-in-Matrix-clause-reply g c = rw (c.in-Matrix.is) (rw c.word-first.ensures at c.reply_of_document-in-Matrix.ensures.reply)

pub returns-in-Reduce-clause-reply : goal.returns-in-Reduce-clause-reply
returns-in-Reduce-clause-reply g c = rw (c.in-Reduce.is) (rw c.word-first.ensures at c.reply_of_document-in-Reduce.ensures.reply)

pub returns-in-Score-clause-reply : goal.returns-in-Score-clause-reply
returns-in-Score-clause-reply g c = rw (c.in-Score.is) (rw (c.word-first.ensures, c.word-in-Score.ensures) at c.reply_of_judged-in-Score.ensures.reply)

pub returns-in-Seconds-clause-reply : goal.returns-in-Seconds-clause-reply
returns-in-Seconds-clause-reply g c = rw (c.in-Seconds.is) (rw c.word-first.ensures at c.reply_of_document-in-Seconds.ensures.reply)

pub returns-in-Confirm-clause-reply : goal.returns-in-Confirm-clause-reply
returns-in-Confirm-clause-reply g c = rw (c.in-Confirm.is) (rw (c.word-first.ensures, c.word-in-Confirm.ensures) at c.reply_of_judged-in-Confirm.ensures.reply)
