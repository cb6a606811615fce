-- A source with all its units.
use Rattle.std.specs.Prelude.{ℕ, ◌<◌, ◌^◌, List, [], length, IsUtf8}
use Rattle.tml_span.specs.Units.{PlainUnit}
use Rattle.tml_span.specs.Cutting.{Cuts}
use Rattle.tml_span.specs.References.{IsBadInUnits, IsNowhere}

pub record Cutting : Type 0 where
  pub source : List ℕ
  pub units : List PlainUnit

-- the source has no fault, and these are all its units
abbrev pub IsWhole : Cutting → Type 0
IsWhole c = IsUtf8 c.source × Cuts c.source c.units [] × IsNowhere (IsBadInUnits c.units)

-- the source has no fault
abbrev pub CutsWhole : List ℕ → Type 0
CutsWhole source = (units : List PlainUnit) × IsWhole (record { source = source; units = units })

-- the same of a source of fewer than 2^32 bytes
abbrev pub IsSmallWhole : Cutting → Type 0
IsSmallWhole c = (length c.source < 2 ^ 32) × IsWhole c
