-- The laws of placings.
use Rattle.std.specs.Prelude.{◌≡◌, ◌↔◌, ℕ, ◌+◌, ◌*◌, ℤ, pos, ◌+ℤ◌, List, length, Some}
use Rattle.net_core.specs.Entailment.{HasTimeline}
use Rattle.net_core.specs.Nets.{points}
use Rattle.net_core.specs.Relations.{Relates, Timeline}
use Rattle.net_core.specs.declared.net.NetLink.{NetLink}
use Rattle.seconds_core.specs.declared.line.Constraint.{Constraint}
use Rattle.seconds_core.specs.declared.line.Line.{Line}
use Rattle.seconds_core.specs.Constraints.{IsMet, constraint_of}
use Rattle.seconds_core.specs.Cycles.{IsNegative}
use Rattle.seconds_core.specs.Placed.{HasPlacing, IsPlaced, KeepsLinkInSeconds, end_at, start_at}
use Rattle.seconds_core.specs.Timed.{IsTimed, PlainTimed}

-- a timeline counts the seconds of an interval from one second on
abbrev pub Counts : ℤ → List ℤ → Timeline → ℕ → Type 0
Counts first seconds t i = (start_at seconds i ≡ first +ℤ pos (t (2 * i))) × (end_at seconds i ≡ first +ℤ pos (t (2 * i + 1)))

-- the law: a link holds of the seconds of its intervals exactly where its relation holds in a timeline that counts them
abbrev pub SecondsSayTheRelation : Type 0
SecondsSayTheRelation = (first : ℤ) (seconds : List ℤ) (t : Timeline) (link : NetLink) → Counts first seconds t link.a → Counts first seconds t link.b → KeepsLinkInSeconds seconds link ↔ Relates t link.a link.rel link.b

-- the law: from some second on, some timeline counts the seconds of all intervals
abbrev pub SecondsAreCounted : Type 0
SecondsAreCounted = (seconds : List ℤ) → (first : ℤ) × (t : Timeline) × ((i : ℕ) → Counts first seconds t i)

-- all constraints that lines name are met
abbrev pub MeetsAll : PlainTimed → List ℤ → Type 0
MeetsAll timed seconds = (line : Line) (c : Constraint) → constraint_of timed line ≡ Some c → IsMet seconds c

-- the law: two seconds for each interval are a placing exactly where they meet all constraints
abbrev pub ConstraintsSayWhatIsPlaced : Type 0
ConstraintsSayWhatIsPlaced = (timed : PlainTimed) (seconds : List ℤ) → IsTimed timed → IsPlaced timed seconds ↔ ((length seconds ≡ points timed.net) × MeetsAll timed seconds)

-- the law: where there is a placing, some timeline fits the net
abbrev pub PlacedFits : Type 0
PlacedFits = (timed : PlainTimed) → HasPlacing timed → HasTimeline timed.net

-- the law: where there is a negative cycle, there is no placing
abbrev pub NegativeIsUnplaced : Type 0
NegativeIsUnplaced = (timed : PlainTimed) (lines : List Line) → IsTimed timed → IsNegative timed lines → HasPlacing timed → ⊥
