use Rattle.std.proofs.Common.{◌≡◌, ℕ, List, ◌≤◌}
use Rattle.tml_types.specs.Content.{PlainTyped}
use Rattle.tml_types.specs.TagReader.{HasGiven, bytes_left}
use Rattle.tml_types.proofs.tag_reader.TagReader.pull.Given as goal

-- no typed tag was given since
abbrev pub invariant-loop-unit : goal.invariant-loop-unit
invariant-loop-unit l = record {
  stays : (source : List ℕ) (typed : List PlainTyped) → HasGiven source typed l.fn.self → HasGiven source typed l.self;
  moves : bytes_left l.self ≤ bytes_left l.fn.self;
  source : l.self.units.source ≡ l.fn.self.units.source;
}

abbrev pub decreases-loop-unit : goal.decreases-loop-unit
decreases-loop-unit l = bytes_left l.self
