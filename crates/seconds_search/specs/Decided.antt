-- Whether intervals can be placed.
use Rattle.std.specs.Prelude.{◌⊎◌, ℤ, pos, neg_ℤ, ◌+◌, ◌*◌, ◌≤◌, ◌≤ℤ◌, ⊤, List, length, Result, Ok, Err}
use Rattle.std.specs.List.{All}
use Rattle.seconds_core.specs.Cycles.{IsNegative}
use Rattle.seconds_core.specs.Placed.{HasPlacing, IsPlaced}
use Rattle.seconds_core.specs.Timed.{IsTimed, PlainTimed, max_second, origin}
use Rattle.seconds_core.specs.declared.line.Line.{Line}
use Rattle.seconds_search.specs.Relaxation.{max_rounds}
use Rattle.seconds_search.specs.declared.deciding.PlaceFault.{PlaceFault}
use Rattle.seconds_search.specs.declared.deciding.PlaceFault.TheVariants.{Negative, Memory}

-- a negative cycle of no more lines than there are points, with the origin
abbrev pub IsShortCycle : PlainTimed → List Line → Type 0
IsShortCycle timed lines = IsNegative timed lines × (length lines ≤ origin timed + 1)

-- A placing is answered, or there is none and a negative cycle shows it, or memory ran out.
abbrev pub IsDecided : PlainTimed → Result (List ℤ) PlaceFault → Type 0
IsDecided timed (Ok seconds) = IsPlaced timed seconds
IsDecided timed (Err (Negative cycle)) = (HasPlacing timed → ⊥) × IsShortCycle timed cycle
IsDecided timed (Err Memory) = ⊤

-- a second that is no further from second 0 than as many of the heaviest constraints as there can be points
abbrev pub IsFar : ℤ → Type 0
IsFar s = (neg_ℤ (pos (max_rounds * max_second)) ≤ℤ s) × (s ≤ℤ pos (max_rounds * max_second))

-- the law: each net has a placing or a negative cycle, of numbers that are not too great
abbrev pub EveryNetIsDecided : Type 0
EveryNetIsDecided = (timed : PlainTimed) → IsTimed timed → ((seconds : List ℤ) × IsPlaced timed seconds × All IsFar seconds) ⊎ ((lines : List Line) × IsShortCycle timed lines)
