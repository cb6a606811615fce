use Rattle.std.proofs.Common.{◌≡◌, ◌-◌, List, map, length}
use Rattle.tml_span.specs.Units.{PlainUnit}
use Rattle.tml_span.specs.Reader.{Divides}
use Rattle.tml_span.specs.View.{unit_of}
use Rattle.tml_span.proofs.unit_list.units.Given as goal

-- the units kept are those given so far
abbrev pub invariant-loop-unit : goal.invariant-loop-unit
invariant-loop-unit l = record {
  source : l.reader.source ≡ l.source;
  given : (left : List PlainUnit) × Divides l.reader (map unit_of l.units) left;
}

abbrev pub decreases-loop-unit : goal.decreases-loop-unit
decreases-loop-unit l = length l.reader.source - l.reader.place
