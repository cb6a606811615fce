use Rattle.std.proofs.Common.{◌≡◌, ℕ, List}
use Rattle.tml_span.specs.Units.{PlainUnit}
use Rattle.tml_types.specs.TagReader.{HasReadUnits, bytes_left}
use Rattle.tml_types.specs.Whole.{HasTagFault}
use Rattle.tml_types.proofs.tag_reader.TagReader.fault_with.Given as goal

abbrev pub invariant-loop-unit : goal.invariant-loop-unit
invariant-loop-unit l = record {
  reads : (source : List ℕ) (us : List PlainUnit) → HasReadUnits source us (λ tags. HasTagFault tags l.fault) l.fn.self → (more : List PlainUnit) × HasReadUnits source more (λ tags. HasTagFault tags l.fault) l.self;
  source : l.self.units.source ≡ l.fn.self.units.source;
}

abbrev pub decreases-loop-unit : goal.decreases-loop-unit
decreases-loop-unit l = bytes_left l.self
