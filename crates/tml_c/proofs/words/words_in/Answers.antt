use Rattle.std.proofs.Common.{rules, sym, ◌∙◌, Result, Ok, Err}
use Rattle.std.specs.Prelude.{IfErr}
use Rattle.tml_c.specs.Words.{HaveWords}
use Rattle.tml_c.proofs.Ending.{ended_have_words, words_are_ended}
use Rattle.tml_c.proofs.words.words_in.Goals as goal

-- what is known whether there is an error or not
if_error : {X E : Type 0} (r : Result X E) (A : Type 0) → A → IfErr r (λ e. A)
if_error (Ok x) A a = tt
if_error (Err e) A a = a

pub returns-in_err-ended_words-clause-err : goal.returns-in_err-ended_words-clause-err
returns-in_err-ended_words-clause-err c =
    let words = ended_have_words c.args.bytes.now (sym c.is_ended.ensures ∙ c.if-is_ended.true) in
    if_error c.from_residual.result (HaveWords c.args.bytes.now) (words.0, record { utf8 = search rules; ended = words.1 })

pub returns-else-is_ended-clause-ok : goal.returns-else-is_ended-clause-ok
returns-else-is_ended-clause-ok c = λ words are. cc (sym (words_are_ended c.args.bytes.now words are.ended) ∙ sym c.is_ended.ensures ∙ c.if-is_ended.false)
