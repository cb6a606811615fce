use Rattle.std.proofs.Common.{sym, ◌∙◌}
use Rattle.tml_tool.proofs.Asked.{along, is_asked, no_count, no_word, no_words, usage_replied}
use Rattle.tml_tool.proofs.top.TmlProgram.reply.Goals as goal

pub returns-in_default-clause-reply : goal.returns-in_default-clause-reply
returns-in_default-clause-reply g c = along g.I.Inputs.known _ _ _ _ _ _ (no_words c.args.words.now c.in_default.ensures.cases) c.reply_of_file.ensures.reply

pub returns-in_default-named_by-clause-reply : goal.returns-in_default-named_by-clause-reply
returns-in_default-named_by-clause-reply g c =
    let none = no_word _ _ _ _ c.in-Some.ensures.cases.0 c.as_bytes.ensures.value c.in_default-named_by.ensures.exact in
    usage_replied g.I.Inputs.known _ _ _ none c.usage_text.ensures

pub returns-then-arguments-clause-reply : goal.returns-then-arguments-clause-reply
returns-then-arguments-clause-reply g c =
    let asked = is_asked _ _ _ _ c.in-Some.ensures.cases.0 c.as_bytes.ensures.value c.in-Some-named_by.form c.in-Some-named_by.ensures.exact (c.if-arguments.true ∙ c.arguments.ensures) in
    along g.I.Inputs.known _ _ _ _ _ _ asked c.reply_with.ensures.reply

pub returns-else-arguments-clause-reply : goal.returns-else-arguments-clause-reply
returns-else-arguments-clause-reply g c =
    let none = no_count _ _ _ _ c.in-Some.ensures.cases.0 c.as_bytes.ensures.value c.in-Some-named_by.form c.in-Some-named_by.ensures.exact (λ e. c.if-arguments.false (e ∙ sym c.arguments.ensures)) in
    usage_replied g.I.Inputs.known _ _ _ none c.usage_text-else-arguments.ensures
