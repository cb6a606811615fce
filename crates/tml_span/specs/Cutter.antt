-- How far a source has been cut, where nothing is known of what follows.
use Rattle.std.specs.Prelude.{◌≡◌, ◌≢◌, ℕ, ◌<◌, ◌≤◌, ◌^◌, slice_index, List, [], ◌∷◌, ◌++◌, drop, length, IsUtf8, Some, None, Ok, Err}
use Rattle.std.specs.declared.result.Result.{Result}
use Rattle.std.specs.declared.option.Option.{Option}
use Rattle.tml_span.specs.declared.unit.Unit as rust
use Rattle.tml_span.specs.declared.fault.Cut.{Cut}
use Rattle.tml_span.specs.Units.{PlainUnit}
use Rattle.tml_span.specs.Cutting.{Cuts, CutsFrom}
use Rattle.tml_span.specs.Faults.{HasCutFault}
use Rattle.tml_span.specs.Reader.{Reading, end_of}
use Rattle.tml_span.specs.References.{IsBadInUnits, IsNowhere}
use Rattle.tml_span.specs.Slices.{UnitIsIn}
use Rattle.tml_span.specs.View.{unit_of}
use Rattle.tml_span.specs.Whole.{IsWhole}

-- The source is UTF-8. Up to the place it is cut into these units, however what follows is cut, and no reference in them is bad.
pub record HasCut (r : Reading) (given : List PlainUnit) : Type 0 where
  pub utf8 : IsUtf8 r.source
  pub cuts : (left : List PlainUnit) (rest : List ℕ) → CutsFrom r.place (drop r.place r.source) left rest → Cuts r.source (given ++ left) rest
  pub sound : IsNowhere (IsBadInUnits given)
  pub place : r.place ≡ end_of 0 given

-- a source of fewer than 2^32 bytes, and 0 or the end of one of its units, up to which it has no fault
abbrev pub IsCutSoFar : Reading → Type 0
IsCutSoFar r = (length r.source < 2 ^ 32) × (given : List PlainUnit) × HasCut r given

-- a cutter of this source that has given no unit
abbrev pub BeginsCut : List ℕ → Reading → Type 0
BeginsCut source r = (r ≡ record { source = source; place = 0 }) × HasCut r []

-- What a pull gives: the unit at the place, or none at the end: then those given are all units of the source, which has no fault. A refusal is the fault of the source, and changes nothing.
abbrev pub CutsOn : Reading → Reading → Result (Option rust.Unit) Cut → Type 0
CutsOn old new (Ok (Some u)) = (new.source ≡ old.source) × (old.place < new.place) × (new.place ≤ length old.source) × UnitIsIn old.source (unit_of u)
    × ((given : List PlainUnit) → HasCut old given → HasCut new (given ++ unit_of u ∷ []))
CutsOn old new (Ok None) = (new ≡ old) × (old.place ≡ length old.source) × ((given : List PlainUnit) → HasCut old given → IsWhole (record { source = old.source; units = given }))
CutsOn old new (Err cut) = (new ≡ old) × HasCutFault old.source cut

-- no `&` stands from a place up to another one
abbrev pub IsClear : List ℕ → ℕ → ℕ → Type 0
IsClear source place clear = (k : ℕ) → place ≤ k → k < clear → slice_index source k ≢ 38
