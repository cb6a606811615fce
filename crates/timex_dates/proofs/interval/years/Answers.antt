use Rattle.std.proofs.Common.{arith}
use Rattle.jiff_core.proofs.SignedLemmas.{signed_arith}
use Rattle.timex_dates.proofs.Extents.{years_extent}
use Rattle.timex_dates.proofs.interval.years.Goals as goal

pub returns-clause-extent : goal.returns-clause-extent
returns-clause-extent c =
    let range = c.range-first in
    years_extent c.args.year range.result.0 range.result.1 c.days_to.result.lo c.days_to.result.hi range.ensures.first.0 (range.ensures.order c.requires) range.ensures.years
    (omega (arith, signed_arith))
    (omega (arith, signed_arith))
