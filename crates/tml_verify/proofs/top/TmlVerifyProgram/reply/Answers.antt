use Rattle.std.proofs.Common.{arith}
use Rattle.runs.proofs.Usage.{usage_replied}
use Rattle.tml_verify.specs.Words.{usage}
use Rattle.tml_verify.proofs.Asked.{along, no_form, two_words}
use Rattle.tml_verify.proofs.top.TmlVerifyProgram.reply.Goals as goal
use Rattle.tml_verify.proofs.top.TmlVerifyProgram.reply.Goals.{in_default-via-then-words-lt2, in_default-via-else-words-lt2+else-words-lt3}

pub returns-in_default-clause-reply : goal.returns-in_default-clause-reply
returns-in_default-clause-reply g c =
    let none = no_form c.args.words.now (elim c.in_default.branch [ in_default-via-then-words-lt2 w ↦ grind arith | in_default-via-else-words-lt2+else-words-lt3 w ↦ grind arith ]) in
    along g.I.Inputs.known _ _ _ _ _ _ none (usage_replied usage g.I.Inputs.known _ _ c.usage_text.ensures)

pub returns-clause-reply : goal.returns-clause-reply
returns-clause-reply g c =
    let asked = two_words c.args.words.now c.doc-item.result c.other-item.result (omega arith) c.doc-item.is c.other-item.is in
    along g.I.Inputs.known _ _ _ _ _ _ asked (rw (c.as_str.ensures.value, c.as_str-2.ensures.value) at c.reply_of_judged.ensures.reply)
