use Rattle.std.proofs.Common.{inl, inr, take, drop, ◌∙◌, ap, arith}
use Rattle.std.proofs.lemmas.Bool.Decides.{nat_tests}
use Rattle.timex_value.proofs.CountTexts.{digits_pass, number_is, number_read}
use Rattle.timex_value.proofs.durations.number_at.Goals as goal

pub returns-then-is_empty : goal.returns-then-is_empty
returns-then-is_empty c = λ n rest h.
    let read = number_read c.args.unit n c.args.text.now rest c.requires h in
    elim c.then-is_empty.either [ inl e ↦ grind (arith, nat_tests) | inr e ↦ grind (arith, nat_tests) ]

pub returns-in_err-rest : goal.returns-in_err-rest
returns-in_err-rest c = rw c.from_residual.ensures (λ n rest h.
    let read = number_read c.args.unit n c.args.text.now rest c.requires h in
    c.in_err-rest.ensures rest (c.split_at.ensures.back ∙ (ap (λ n. drop n c.args.text.now) c.digits_len.ensures.len ∙ read.1)))

pub number-requires-clause-digits : goal.number-requires-clause-digits
number-requires-clause-digits c = rw (c.split_at.ensures.front, c.digits_len.ensures.len) (digits_pass c.args.text.now)

pub returns : goal.returns
returns c =
    let len = c.digits_len.ensures.len in
    let digits = c.split_at.ensures.front ∙ ap (λ n. take n c.args.text.now) len in
    let tail = c.split_at.ensures.back ∙ ap (λ n. drop n c.args.text.now) len in
    number_is c.args.unit c.number.result c.args.text.now c.split_at.result.0.now c.split_at.result.1.now c.in_ok-rest.rest.now digits tail (grind (arith, nat_tests), omega arith) c.number.ensures c.in_ok-rest.ensures
