-- Serves the code: numbers of edges, by the points that the edges leave.
use Rattle.std.specs.Prelude.{◌≡◌, ℕ, ◌<◌, length, List, None, Option, IfSome, slice_index_or}
use Rattle.std.specs.List.{All}
use Rattle.seconds_search.specs.declared.edges.Edge.{Edge}
use Rattle.seconds_search.specs.declared.leaving.Leaving.{Leaving}
use Rattle.seconds_search.specs.declared.ordering.Visit.{Visit}
use Rattle.seconds_search.specs.Edges.{AreInside}

-- a number is one of n edges, if there is one
abbrev pub IsEdgeNumber : ℕ → Option ℕ → Type 0
IsEdgeNumber n next = IfSome next (λ k. k < n)

-- The lists are those of edges between points, and in each list the numbers fall.
pub record AreLeaving (points : ℕ) (edges : List Edge) (leaving : Leaving) : Type 0 where
  pub inside : AreInside points edges
  pub of_points : length leaving.last.items ≡ points
  pub of_edges : length leaving.before.items ≡ length edges
  pub last : All (IsEdgeNumber (length leaving.before.items)) leaving.last.items
  pub before : (k : ℕ) → k < length edges → IsEdgeNumber k (slice_index_or leaving.before.items k None)

-- numbers of n points
abbrev pub ArePoints : ℕ → List ℕ → Type 0
ArePoints n points = All (λ (point : ℕ). point < n) points

-- the point of a visit is one of n, and it is left by one of m edges next, if by any
abbrev pub IsVisit : ℕ → ℕ → Visit → Type 0
IsVisit n m visit = (visit.point < n) × IsEdgeNumber m visit.next
