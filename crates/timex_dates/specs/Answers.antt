-- Bounds of a time: of its kind, its modifier and its value.
use Rattle.std.specs.Prelude.{ℕ, ◌≡◌, Bool, true, false, Option, Some, None, ℤ}
use Rattle.net_core.specs.Bounds.{AreOrdered}
use Rattle.net_core.specs.declared.bounds.Bounds.{Bounds}
use Rattle.net_core.specs.declared.bounds.Bounds.TheVariants.{Exact, Within, Free}
use Rattle.timex_value.specs.declared.shape.Year.{Year}
use Rattle.timex_value.specs.declared.shape.Year.TheVariants as YearOf
use Rattle.timex_value.specs.declared.shape.Shape.{Shape}
use Rattle.timex_value.specs.declared.kinds.TimexKind.{TimexKind}
use Rattle.timex_value.specs.declared.kinds.TimexKind.TheVariants as KindOf
use Rattle.timex_value.specs.declared.kinds.Modifier.{Modifier}
use Rattle.timex_value.specs.declared.kinds.Modifier.TheVariants as ModifierOf
use Rattle.timex_value.specs.declared.value.Value.{Value}
use Rattle.timex_value.specs.declared.value.Value.TheVariants as ValueOf
use Rattle.timex_value.specs.Values.{year_of, shape_of}
use Rattle.timex_dates.specs.Seconds.{Extent, IsCivilSecond}
use Rattle.timex_dates.specs.KnownParts.{is_whole, Belongs}

-- how well the bounds of a time are known: they are its ends, or it lies within them, or there are none
pub data Precision : Type 0 where
  exact : Precision
  within : Precision
  unspecified : Precision

-- exact without a modifier and without X; within where there is an X, and for START, MID and END; and else unspecified
abbrev pub modified_precision : Option Modifier → Bool → Precision
modified_precision None true = exact
modified_precision None false = within
modified_precision (Some ModifierOf.Start) whole = within
modified_precision (Some ModifierOf.Mid) whole = within
modified_precision (Some ModifierOf.End) whole = within
modified_precision (Some modifier) whole = unspecified

-- unspecified where the year is all X
abbrev pub calendar_precision : Option Modifier → Year → Shape → Precision
calendar_precision modifier YearOf.Unknown shape = unspecified
calendar_precision modifier year shape = modified_precision modifier (is_whole year shape)

-- unspecified for durations and sets
abbrev pub precision_of : TimexKind → Option Modifier → Year → Shape → Precision
precision_of KindOf.Duration modifier year shape = unspecified
precision_of KindOf.Set modifier year shape = unspecified
precision_of kind modifier year shape = calendar_precision modifier year shape

-- bounds of this precision, whose numbers are the extent of the set
abbrev pub HasBounds : Precision → (ℕ → Type 0) → Bounds → Type 0
HasBounds exact P (Exact lo hi) = Extent P lo hi
HasBounds within P (Within lo hi) = Extent P lo hi
HasBounds unspecified P b = b ≡ Free
HasBounds precision P b = ⊥

-- the bounds of a time are those of its calendar value, and unspecified without one
abbrev pub BoundsOf : TimexKind → Option Modifier → Option Value → Bounds → Type 0
BoundsOf kind modifier (Some (ValueOf.Calendar c)) b =
    HasBounds (precision_of kind modifier (year_of c) (shape_of c)) (Belongs (year_of c) (shape_of c)) b
BoundsOf kind modifier value b = b ≡ Free

-- the numbers of bounds have civil texts
abbrev pub IsCivil : Bounds → Type 0
IsCivil (Exact lo hi) = IsCivilSecond lo × IsCivilSecond hi
IsCivil (Within lo hi) = IsCivilSecond lo × IsCivilSecond hi
IsCivil Free = Unit {0}

-- the seconds that belong to a value have one extent
abbrev pub OneExtent : Type 0
OneExtent =
    (year : Year) (shape : Shape) (lo hi low high : ℤ)
    → Extent (Belongs year shape) lo hi → Extent (Belongs year shape) low high → (lo ≡ low) × (hi ≡ high)

-- a time has one answer
abbrev pub OneBounds : Type 0
OneBounds =
    (kind : TimexKind) (modifier : Option Modifier) (value : Option Value) (a b : Bounds)
    → BoundsOf kind modifier value a → BoundsOf kind modifier value b → a ≡ b

-- a time has an answer: bounds in order, whose numbers have civil texts
abbrev pub EveryBounds : Type 0
EveryBounds = (kind : TimexKind) (modifier : Option Modifier) (value : Option Value) → (b : Bounds) × BoundsOf kind modifier value b × AreOrdered b × IsCivil b
