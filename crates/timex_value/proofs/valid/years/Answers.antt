use Rattle.std.proofs.Common.{arith}
use Rattle.timex_value.proofs.Cycle.{valid_early}
use Rattle.timex_value.proofs.valid.years.Goals as goal

pub returns-clause-enough : goal.returns-clause-enough
returns-clause-enough c = λ y shape year valid.
    let range = c.range-first in
    let at = (range.ensures.years y).0 year in
    let early = valid_early range.result.0 y shape range.ensures.first.0 at.0 valid in
    (early.0, (early.1.0, omega arith), early.3)
