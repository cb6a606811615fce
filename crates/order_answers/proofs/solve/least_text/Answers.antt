use Rattle.std.proofs.Common.{arith}
use Rattle.order_answers.proofs.solve.least_text.Goals as goal

pub timeline_text-requires-clause-few : goal.timeline_text-requires-clause-few
timeline_text-requires-clause-few c = omega (arith, c.requires.few, c.in_ok-least.ensures.size)

pub timeline_text-requires-clause-small : goal.timeline_text-requires-clause-small
timeline_text-requires-clause-small c = λ p lt. let small = c.in_ok-least.ensures.small p (omega (arith, lt, c.in_ok-least.ensures.size)) in omega (arith, small, c.in_ok-least.ensures.size)
