-- Along lines whose constraints are met, a second is at most the sum after the one where they begin.
use Rattle.std.proofs.Common.{◌≡◌, ℕ, ℤ, ◌+ℤ◌, ◌≤ℤ◌, List, [], ◌∷◌, sym, ap, arith}
use Rattle.std.proofs.lemmas.Int.{ints}
use Rattle.seconds_core.specs.declared.line.Line.{Line}
use Rattle.seconds_core.specs.Constraints.{constraint_of}
use Rattle.seconds_core.specs.Cycles.{LeadFromTo, sum_of, weight_in}
use Rattle.seconds_core.specs.Laws.{MeetsAll, NegativeIsUnplaced}
use Rattle.seconds_core.specs.Placed.{second_at}
use Rattle.seconds_core.specs.Timed.{PlainTimed}
use Rattle.seconds_core.proofs.Kept.{constraints_say_what_is_placed}

pub along : (timed : PlainTimed) (seconds : List ℤ) → MeetsAll timed seconds → (lines : List Line) (x y : ℕ) → LeadFromTo timed lines x y → second_at seconds y ≤ℤ (second_at seconds x +ℤ sum_of timed lines)
along timed seconds meets [] x y same = rw same (omega (arith, ints))
along timed seconds meets (line ∷ lines) x y (c, named, from, rest) =
    let first = meets line c named in
    let after = along timed seconds meets lines c.to y rest in
    let weight : weight_in (constraint_of timed line) ≡ c.weight = ap weight_in named in
    rw (sym from, weight) (omega (arith, ints, first, after))

pub negative_is_unplaced : NegativeIsUnplaced
negative_is_unplaced timed lines is (x, joined, below) (seconds, placed) =
    let meets = ((constraints_say_what_is_placed timed seconds is).0 placed).1 in
    absurd (omega (arith, ints, below, along timed seconds meets lines x x joined))
