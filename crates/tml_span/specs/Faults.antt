-- Why a source is not cut into units whole.
use Rattle.std.specs.Prelude.{◌≡◌, ◌≢◌, ◌⊎◌, ℕ, ◌+◌, List, [], length, IsUtf8, Option, Some, None, ⊤}
use Rattle.std.specs.Str.{IsValidUpTo}
use Rattle.faults.specs.declared.kind.FaultKind.{FaultKind}
use Rattle.faults.specs.declared.kind.FaultKind.TheVariants as fault
use Rattle.tml_span.specs.declared.fault.Cut.{Cut}
use Rattle.tml_span.specs.declared.fault.Cut.TheVariants.{NotUtf8, BadReference, BadMarkup, Memory}
use Rattle.tml_span.specs.declared.fault.PlainCut.{PlainCut}
use Rattle.tml_span.specs.declared.fault.PlainCut.TheVariants as plain
use Rattle.tml_span.specs.Units.{PlainUnit}
use Rattle.tml_span.specs.Cutting.{Cuts}
use Rattle.tml_span.specs.References.{IsBadInUnits, IsLeastPlace, IsNowhere}
use Rattle.tml_span.specs.Whole.{IsWhole, CutsWhole}

-- the source is not UTF-8, and its longest valid prefix has this length
abbrev pub IsNotUtf8 : List ℕ → ℕ → Type 0
IsNotUtf8 source place = ¬ (IsUtf8 source) × IsValidUpTo source place

-- the first bad reference in the units of the cut is here
abbrev pub HasBadReference : List ℕ → ℕ → Type 0
HasBadReference source place = IsUtf8 source × (units : List PlainUnit) × (rest : List ℕ) × Cuts source units rest × IsLeastPlace (IsBadInUnits units) place

-- no reference in the units of the cut is bad, but the cut has a rest, which begins here
abbrev pub HasBadMarkup : List ℕ → ℕ → Type 0
HasBadMarkup source place = IsUtf8 source × (units : List PlainUnit) × (rest : List ℕ) × Cuts source units rest × IsNowhere (IsBadInUnits units) × (rest ≢ []) × (place + length rest ≡ length source)

-- the fault of a source; the other kinds are not those of a cut
abbrev pub CutFault : List ℕ → ℕ → FaultKind → Type 0
CutFault source place fault.NotUtf8 = IsNotUtf8 source place
CutFault source place fault.BadReference = HasBadReference source place
CutFault source place fault.BadMarkup = HasBadMarkup source place
CutFault source place kind = ⊥

-- the kind of a fault and its place
abbrev pub kind_and_place : PlainCut → FaultKind × ℕ
kind_and_place (plain.NotUtf8 place) = (fault.NotUtf8, place)
kind_and_place (plain.BadReference place) = (fault.BadReference, place)
kind_and_place (plain.BadMarkup place) = (fault.BadMarkup, place)

-- the source has this fault
abbrev pub HasPlainFault : List ℕ → PlainCut → Type 0
HasPlainFault source cut = CutFault source (kind_and_place cut).1 (kind_and_place cut).0

-- the same fault, where memory may run out as well
abbrev pub cut_of : PlainCut → Cut
cut_of (plain.NotUtf8 place) = NotUtf8 place
cut_of (plain.BadReference place) = BadReference place
cut_of (plain.BadMarkup place) = BadMarkup place

-- the kind of a fault and its place; out of memory has none
abbrev pub cut_kind_and_place : Cut → Option (FaultKind × ℕ)
cut_kind_and_place (NotUtf8 place) = Some (fault.NotUtf8, place)
cut_kind_and_place (BadReference place) = Some (fault.BadReference, place)
cut_kind_and_place (BadMarkup place) = Some (fault.BadMarkup, place)
cut_kind_and_place Memory = None

-- what a refusal says of the source: it has this fault, or none and memory ran out
abbrev pub HasCutFault : List ℕ → Cut → Type 0
HasCutFault source (NotUtf8 place) = IsNotUtf8 source place
HasCutFault source (BadReference place) = HasBadReference source place
HasCutFault source (BadMarkup place) = HasBadMarkup source place
HasCutFault source Memory = CutsWhole source

-- a source has one fault at most, and none where it is cut whole
pub record OneFault (source : List ℕ) : Type 0 where
  pub whole_or_fault : (units : List PlainUnit) (place : ℕ) (kind : FaultKind) → IsWhole (record { source = source; units = units }) → CutFault source place kind → ⊥
  pub one_fault : (place other : ℕ) (kind same : FaultKind) → CutFault source place kind → CutFault source other same → (place ≡ other) × (kind ≡ same)

abbrev pub OneFaults : Type 0
OneFaults = (source : List ℕ) → OneFault source

-- a source is cut whole, or has a fault
abbrev pub CutOrFault : List ℕ → Type 0
CutOrFault source = CutsWhole source ⊎ ((place : ℕ) × (kind : FaultKind) × CutFault source place kind)
