-- Serves the code: bellman-Ford relaxation: a distance for each point, and the number of the edge by which it was lowered last.
use Rattle.std.specs.Prelude.{◌≡◌, ◌⊎◌, ℕ, ◌+◌, ◌-◌, ◌*◌, ◌<◌, ◌≤◌, ℤ, pos, negsuc, neg_ℤ, ◌+ℤ◌, ◌<ℤ◌, ◌≤ℤ◌, List, [], ◌∷◌, length, Option, Some, None, MatchOption, slice_index_or}
use Rattle.std.specs.List.{All}
use Rattle.net_core.specs.Limits.{max_points}
use Rattle.seconds_core.specs.Constraints.{IsMet}
use Rattle.seconds_core.specs.Cycles.{IsNegative}
use Rattle.seconds_core.specs.Placed.{second_at}
use Rattle.seconds_core.specs.Timed.{PlainTimed, max_second}
use Rattle.seconds_core.specs.declared.line.Constraint.{Constraint}
use Rattle.seconds_core.specs.declared.line.Line.{Line}
use Rattle.seconds_search.specs.declared.edges.Edge.{Edge}
use Rattle.seconds_search.specs.declared.relaxation.Relaxed.{Relaxed}
use Rattle.seconds_search.specs.declared.relaxation.Relaxed.TheVariants.{Met, Lowered, TooLow}
use Rattle.seconds_search.specs.Edges.{AreInside, IsEdge, edge_at}

-- the most points there are, with the origin
abbrev pub max_rounds : ℕ
max_rounds = max_points + 1

-- no distance is further below 0: as many of the heaviest edges as there can be points
abbrev pub lowest : ℕ
lowest = max_rounds * max_second

abbrev pub IsNear : ℤ → Type 0
IsNear s = (neg_ℤ (pos lowest) ≤ℤ s) × (s ≤ℤ pos 0)

pub record PlainDistances : Type 0 where
  pub seconds : List ℤ
  pub predecessors : List (Option ℕ)

-- the edge by which a point was lowered last, if any
abbrev pub predecessor : List (Option ℕ) → ℕ → Option ℕ
predecessor predecessors p = slice_index_or predecessors p None

abbrev pub constraint_at : List Edge → ℕ → Constraint
constraint_at edges e = (edge_at edges e).constraint

-- edges, each the predecessor of the point that the one before it leads from: back from p to q
abbrev pub IsTrail : List Edge → List (Option ℕ) → ℕ → List ℕ → ℕ → Type 0
IsTrail edges predecessors p [] q = p ≡ q
IsTrail edges predecessors p (e ∷ trail) q = (predecessor predecessors p ≡ Some e) × IsTrail edges predecessors (constraint_at edges e).from trail q

abbrev pub weight_of : List Edge → List ℕ → ℤ
weight_of edges [] = pos 0
weight_of edges (e ∷ trail) = (constraint_at edges e).weight +ℤ weight_of edges trail

-- the point has not been lowered more since than its predecessor allows
pub record IsPredecessor (edges : List Edge) (seconds : List ℤ) (p e : ℕ) : Type 0 where
  pub edge : e < length edges
  pub to : (constraint_at edges e).to ≡ p
  pub tight : (second_at seconds (constraint_at edges e).from +ℤ (constraint_at edges e).weight) ≤ℤ second_at seconds p

-- Distances that began at 0 and were lowered by edges: a point without a predecessor is still at 0, and a trail that comes back to where it began is negative.
pub record IsRelaxed (edges : List Edge) (distances : PlainDistances) : Type 0 where
  pub size : length distances.predecessors ≡ length distances.seconds
  pub few : length distances.seconds ≤ max_rounds
  pub inside : AreInside (length distances.seconds) edges
  pub near : All IsNear distances.seconds
  pub root : (p : ℕ) → predecessor distances.predecessors p ≡ None → second_at distances.seconds p ≡ pos 0
  pub lowered : (p e : ℕ) → predecessor distances.predecessors p ≡ Some e → IsPredecessor edges distances.seconds p e
  pub negative : (p e : ℕ) (trail : List ℕ) → IsTrail edges distances.predecessors p (e ∷ trail) p → weight_of edges (e ∷ trail) <ℤ pos 0

-- a distance below those of all trails that meet no point twice
abbrev pub IsTooLow : List ℤ → ℕ → Type 0
IsTooLow seconds p = second_at seconds p <ℤ neg_ℤ (pos (max_points * max_second))

-- how far distances are above the least that they can be, in all: what relaxation makes less
abbrev pub height : ℤ → ℕ
height (pos n) = lowest + n
height (negsuc n) = lowest - (n + 1)

abbrev pub total : List ℤ → ℕ
total [] = 0
total (s ∷ seconds) = height s + total seconds

abbrev pub AreMet : List Edge → List ℤ → Type 0
AreMet edges seconds = (e : ℕ) → e < length edges → IsMet seconds (constraint_at edges e)

-- what the relaxation of one edge did
abbrev pub Relaxes : List Edge → ℕ → PlainDistances → PlainDistances → Relaxed → Type 0
Relaxes edges e old new Met = (new ≡ old) × IsMet new.seconds (constraint_at edges e)
Relaxes edges e old new Lowered = total new.seconds < total old.seconds
Relaxes edges e old new TooLow = (new ≡ old) × IsTooLow new.seconds (constraint_at edges e).from

-- All edges are met, or a point is known that was lowered, or that is too low.
abbrev pub RelaxesAll : List Edge → PlainDistances → PlainDistances → Option ℕ → Type 0
RelaxesAll edges old new found = MatchOption found (AreMet edges new.seconds) (λ p. (p < length new.seconds) × ((total new.seconds < total old.seconds) ⊎ IsTooLow new.seconds p))

-- edges that lead back from a point to it, no more than there are points
pub record IsClosedTrail (edges : List Edge) (distances : PlainDistances) (trail : List ℕ) (p : ℕ) : Type 0 where
  pub back : IsTrail edges distances.predecessors p trail p
  pub some : 0 < length trail
  pub few : length trail ≤ length distances.seconds

-- lines that are a negative cycle of each net that has these edges
abbrev pub AreNegative : List Edge → List Line → Type 0
AreNegative edges lines = (timed : PlainTimed) → All (IsEdge timed) edges → IsNegative timed lines
