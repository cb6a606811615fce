use Rattle.std.proofs.Common.{rules, arith}
use Rattle.std.proofs.lemmas.Fmt.{length-decimal-le}
use Rattle.std.proofs.lemmas.Grind.{common_steps}
use Rattle.line_texts.proofs.write.push_pair.Goals as goal

pub write_digits-second-requires : goal.write_digits-second-requires
write_digits-second-requires c = search (rules, length-decimal-le 10)

pub overflow_sub-text : goal.overflow_sub-text
overflow_sub-text c = omega (arith, length-decimal-le 10 c.from.result)

pub overflow_sub-second : goal.overflow_sub-second
overflow_sub-second c = omega (arith, length-decimal-le 10 c.from.result)

pub write_digits-first-requires : goal.write_digits-first-requires
write_digits-first-requires c = search (rules, length-decimal-le 10)

pub returns : goal.returns
returns c = grind (arith, common_steps, length-decimal-le 10 c.from.result)
