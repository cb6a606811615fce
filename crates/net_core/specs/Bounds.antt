-- What a calendar says of the start and the end of an interval.
use Rattle.std.specs.Prelude.{Bool, ℤ, ◌<ℤ◌, ⊤, Option, Some, None, if◌then◌else◌}
use Rattle.net_core.specs.declared.bounds.Bounds.{Bounds}
use Rattle.net_core.specs.declared.bounds.Bounds.TheVariants.{Exact, Within, Free}

-- where there are numbers, the first is below the second
abbrev pub AreOrdered : Bounds → Type 0
AreOrdered (Exact lo hi) = lo <ℤ hi
AreOrdered (Within lo hi) = lo <ℤ hi
AreOrdered Free = ⊤

-- the number that the start, or the end, is not below
abbrev pub lower_of : Bounds → Bool → Option ℤ
lower_of (Exact lo hi) is_end = Some (if is_end then hi else lo)
lower_of (Within lo hi) is_end = if is_end then None else Some lo
lower_of Free is_end = None

-- the number that the start, or the end, is not above
abbrev pub upper_of : Bounds → Bool → Option ℤ
upper_of (Exact lo hi) is_end = Some (if is_end then hi else lo)
upper_of (Within lo hi) is_end = if is_end then Some hi else None
upper_of Free is_end = None
