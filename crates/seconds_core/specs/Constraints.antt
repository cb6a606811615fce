-- Constraints between points, and the lines that name them.
use Rattle.std.specs.Prelude.{ℕ, ◌+◌, ◌*◌, ◌≤◌, nat_lt, ℤ, pos, neg_ℤ, ◌+ℤ◌, ◌≤ℤ◌, List, Option, Some, None, option_map, if◌then◌else◌}
use Rattle.net_core.specs.Nets.{intervals}
use Rattle.net_core.specs.Steps.{atom_of}
use Rattle.net_core.specs.declared.atom.Atom.{Atom}
use Rattle.net_core.specs.declared.step.Step.TheVariants.{Link}
use Rattle.seconds_core.specs.declared.line.Constraint.{Constraint}
use Rattle.seconds_core.specs.declared.line.Line.{Line}
use Rattle.seconds_core.specs.declared.line.Line.TheVariants.{Span, Via, Lower, Upper, Least, Most}
use Rattle.seconds_core.specs.Placed.{second_at}
use Rattle.seconds_core.specs.Timed.{PlainTimed, limits_at, lower_second, max_second, origin, upper_second}

-- the seconds of two points meet a constraint
abbrev pub IsMet : List ℤ → Constraint → Type 0
IsMet seconds c = second_at seconds c.to ≤ℤ (second_at seconds c.from +ℤ c.weight)

-- point `to` is at most this number of seconds after point `from`
abbrev pub at_most : ℕ → ℕ → ℤ → Constraint
at_most from to weight = record { from = from; to = to; weight = weight }

-- The first point of an order is no later than the other one, and where the order is strict a second before it: whole seconds lie no closer.
abbrev pub constraint_by : Atom → Constraint
constraint_by atom = at_most atom.to atom.from (if atom.strict then neg_ℤ (pos 1) else pos 0)

-- The constraint that a line names, if any.
abbrev pub constraint_of : PlainTimed → Line → Option Constraint
constraint_of timed (Span i) = if nat_lt i (intervals timed.net) then Some (at_most (2 * i + 1) (2 * i) (neg_ℤ (pos 1))) else None
constraint_of timed (Via link atom) = option_map constraint_by (atom_of timed.net (Link link atom))
constraint_of timed (Lower p) = option_map (λ n. at_most p (origin timed) (neg_ℤ n)) (lower_second timed p)
constraint_of timed (Upper p) = option_map (λ n. at_most (origin timed) p n) (upper_second timed p)
constraint_of timed (Least i) = option_map (λ n. at_most (2 * i + 1) (2 * i) (neg_ℤ n)) (limits_at timed i).least
constraint_of timed (Most i) = option_map (λ n. at_most (2 * i) (2 * i + 1) n) (limits_at timed i).most

-- its points are those of the intervals or the origin, and its weight is not too far from 0
pub record IsConstraintWithin (timed : PlainTimed) (c : Constraint) : Type 0 where
  pub from : c.from ≤ origin timed
  pub to : c.to ≤ origin timed
  pub low : neg_ℤ (pos max_second) ≤ℤ c.weight
  pub high : c.weight ≤ℤ pos max_second
