use Rattle.std.proofs.Common.{rules, arith}
use Rattle.std.proofs.lemmas.Fmt.{length-decimal-le}
use Rattle.std.proofs.lemmas.Grind.{common_steps}
use Rattle.document_answers.proofs.Digits.{filled_before}
use Rattle.document_answers.proofs.spans.push_span.Goals as goal

pub write_digits-end-requires : goal.write_digits-end-requires
write_digits-end-requires c = search (rules, length-decimal-le 10)

pub overflow_sub-end : goal.overflow_sub-end
overflow_sub-end c = omega (arith, length-decimal-le 10 c.args.span.end)

pub write_digits-start-requires : goal.write_digits-start-requires
write_digits-start-requires c = search (rules, length-decimal-le 10)

pub returns : goal.returns
returns c =
    let w = c.write_digits-end in
    let between = filled_before w.new.buf 32 w.result 22 (search (rules, length-decimal-le 10)) (omega arith) (search rules) w.ensures.before in
    grind (arith, common_steps)
