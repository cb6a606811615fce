use Rattle.std.proofs.Common.{take}
use Rattle.std.specs.List.{All, AllZip}
use Rattle.net_core.specs.Bounds.{AreOrdered}
use Rattle.timex_dates.specs.Answers.{IsCivil}
use Rattle.net_build.specs.Built.{IntervalBounds}
use Rattle.net_build.proofs.build.all_bounds.Given as goal

-- the bounds so far are those of the first intervals
abbrev pub invariant-loop-i : goal.invariant-loop-i
invariant-loop-i l = record {
  bounds : AllZip IntervalBounds (take l.i l.document.intervals) l.bounds;
  ordered : All AreOrdered l.bounds;
  civil : All IsCivil l.bounds;
}
