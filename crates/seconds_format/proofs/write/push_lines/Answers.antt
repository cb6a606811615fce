use Rattle.std.proofs.Common.{get_or, below_more, subst, arith}
use Rattle.std.proofs.lemmas.Grind.{common_steps}
use Rattle.std.proofs.lemmas.List.{get_or_default}
use Rattle.seconds_core.specs.declared.line.Line.TheVariants.{Span}
use Rattle.seconds_format.specs.Texts.{HasLineNumbers}
use Rattle.seconds_format.proofs.write.push_lines.Goals as goal

pub loop-line-preserved : goal.loop-line-preserved
loop-line-preserved c = record {
  bytes = grind (arith, common_steps);
  good = λ k d less. below_more (λ i. HasLineNumbers (get_or c.args.lines.now i d)) c.loop-line.line-index (λ i before. c.loop-line.invariant.good i d before)
      (subst HasLineNumbers (get_or_default c.args.lines.now c.loop-line.line-index (Span 0) d c.loop-line-test.true) c.push_line.ensures.good) k less;
}
