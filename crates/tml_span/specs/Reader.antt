-- How far a reader of units has come.
use Rattle.std.specs.Prelude.{◌≡◌, ℕ, ◌<◌, ◌≤◌, ◌^◌, List, [], ◌∷◌, ◌++◌, length, Some, None, Ok, Err}
use Rattle.std.specs.declared.result.Result.{Result}
use Rattle.std.specs.declared.option.Option.{Option}
use Rattle.tml_span.specs.declared.unit.Unit as rust
use Rattle.lists.specs.declared.memory.Memory.{Memory}
use Rattle.tml_span.specs.Units.{PlainUnit}
use Rattle.tml_span.specs.Slices.{UnitIsIn}
use Rattle.tml_span.specs.View.{unit_of}
use Rattle.tml_span.specs.Whole.{IsWhole, CutsWhole}

-- a source, and the place up to which its units are given
pub record Reading : Type 0 where
  pub source : List ℕ
  pub place : ℕ

-- the end of the last of some units, or where they begin if there are none
abbrev pub end_of : ℕ → List PlainUnit → ℕ
end_of place [] = place
end_of place (u ∷ units) = end_of u.end units

-- The source has no fault, and these are its units up to the place and those after it.
pub record Divides (r : Reading) (given left : List PlainUnit) : Type 0 where
  pub whole : IsWhole (record { source = r.source; units = given ++ left })
  pub place : r.place ≡ end_of 0 given

-- a source of fewer than 2^32 bytes that has no fault, and 0 or the end of one of its units
abbrev pub IsReading : Reading → Type 0
IsReading r = (length r.source < 2 ^ 32) × (given : List PlainUnit) × (left : List PlainUnit) × Divides r given left

-- a reader of this source that has given no unit
abbrev pub BeginsReading : List ℕ → Reading → Type 0
BeginsReading source r = (r ≡ record { source = source; place = 0 }) × CutsWhole source

-- What a pull gives: the first of the units that are left, or none where none is left. A refusal changes nothing.
abbrev pub GivesUnit : Reading → Reading → Result (Option rust.Unit) Memory → Type 0
GivesUnit old new (Ok (Some u)) = (new.source ≡ old.source) × (old.place < new.place) × (new.place ≤ length old.source) × UnitIsIn old.source (unit_of u)
    × ((given left : List PlainUnit) → Divides old given left → (more : List PlainUnit) × (left ≡ unit_of u ∷ more) × Divides new (given ++ unit_of u ∷ []) more)
GivesUnit old new (Ok None) = (new ≡ old) × (old.place ≡ length old.source) × ((given left : List PlainUnit) → Divides old given left → left ≡ [])
GivesUnit old new (Err e) = new ≡ old
