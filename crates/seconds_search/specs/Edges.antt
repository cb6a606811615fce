-- Serves the code: all constraints between the points of a net.
use Rattle.std.specs.Prelude.{◌≡◌, ℕ, ◌+◌, ◌<◌, ◌≤◌, pos, neg_ℤ, ◌≤ℤ◌, List, length, Some, slice_index_or}
use Rattle.std.specs.List.{All, Contains}
use Rattle.seconds_core.specs.Constraints.{IsConstraintWithin, at_most, constraint_of}
use Rattle.seconds_core.specs.Timed.{PlainTimed, max_second}
use Rattle.seconds_core.specs.declared.line.Constraint.{Constraint}
use Rattle.seconds_core.specs.declared.line.Line.{Line}
use Rattle.seconds_core.specs.declared.line.Line.TheVariants.{Span, Via, Lower, Upper, Least, Most}
use Rattle.seconds_search.specs.declared.edges.Edge.{Edge}

abbrev pub edge_at : List Edge → ℕ → Edge
edge_at edges e = slice_index_or edges e (record { line = Span 0; constraint = at_most 0 0 (pos 0) })

abbrev pub edge_line : List Edge → ℕ → Line
edge_line edges e = (edge_at edges e).line

-- the edge is a constraint of the net, with the line that names it
abbrev pub IsEdge : PlainTimed → Edge → Type 0
IsEdge timed edge = (constraint_of timed edge.line ≡ Some edge.constraint) × IsConstraintWithin timed edge.constraint

-- the constraint of a line, where it names one, is among the edges
abbrev pub Covers : PlainTimed → List Edge → Line → Type 0
Covers timed edges line = (c : Constraint) → constraint_of timed line ≡ Some c → Contains edges (record { line = line; constraint = c })

abbrev pub CoversAll : PlainTimed → List Edge → (Line → Type 0) → Type 0
CoversAll timed edges Kind = (line : Line) → Kind line → Covers timed edges line

-- the edge is between points, and its weight is not too far from 0
pub record IsEdgeInside (points : ℕ) (edge : Edge) : Type 0 where
  pub from : edge.constraint.from < points
  pub to : edge.constraint.to < points
  pub low : neg_ℤ (pos max_second) ≤ℤ edge.constraint.weight
  pub high : edge.constraint.weight ≤ℤ pos max_second

abbrev pub AreInside : ℕ → List Edge → Type 0
AreInside points edges = All (IsEdgeInside points) edges

-- The edges of a net are all its constraints.
pub record AreConstraintEdges (timed : PlainTimed) (edges : List Edge) : Type 0 where
  pub named : All (IsEdge timed) edges
  pub whole : (line : Line) → Covers timed edges line

-- some edges of the net are more now than before, by a count at most
pub record EdgesGrow (timed : PlainTimed) (old new : List Edge) (count : ℕ) : Type 0 where
  pub named : All (IsEdge timed) old → All (IsEdge timed) new
  pub kept : (edge : Edge) → Contains old edge → Contains new edge
  pub few : length new ≤ length old + count

-- the line is one of an interval, of a point, or of a link
abbrev pub IsOfInterval : ℕ → Line → Type 0
IsOfInterval i (Span j) = j ≡ i
IsOfInterval i (Least j) = j ≡ i
IsOfInterval i (Most j) = j ≡ i
IsOfInterval i (Via link atom) = ⊥
IsOfInterval i (Lower p) = ⊥
IsOfInterval i (Upper p) = ⊥

abbrev pub IsOfPoint : ℕ → Line → Type 0
IsOfPoint p (Lower q) = q ≡ p
IsOfPoint p (Upper q) = q ≡ p
IsOfPoint p (Span i) = ⊥
IsOfPoint p (Least i) = ⊥
IsOfPoint p (Most i) = ⊥
IsOfPoint p (Via link atom) = ⊥

abbrev pub IsLineOfLink : ℕ → Line → Type 0
IsLineOfLink k (Via link atom) = link ≡ k
IsLineOfLink k (Span i) = ⊥
IsLineOfLink k (Least i) = ⊥
IsLineOfLink k (Most i) = ⊥
IsLineOfLink k (Lower p) = ⊥
IsLineOfLink k (Upper p) = ⊥
