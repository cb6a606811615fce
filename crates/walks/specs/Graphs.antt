-- Serves the code: the steps that a walk may take.
use Rattle.std.specs.Prelude.{◌≡◌, ◌⊎◌, ℕ, ◌<◌, int_lt, List, Some}
use Rattle.std.specs.List.{All, Any, Contains}
use Rattle.net_core.specs.Nets.{PlainNet, lower, points}
use Rattle.net_core.specs.Steps.{atom_of}
use Rattle.net_core.specs.declared.step.Step.TheVariants.{Calendar}
use Rattle.walks.specs.Dates.{AreAscending, AreDates}
use Rattle.walks.specs.Edges.{AreEdgesSorted, IsDated}
use Rattle.walks.specs.declared.dates.Date.{Date}
use Rattle.walks.specs.declared.edges.Edge.{Edge}
use Rattle.walks.specs.declared.graph.Graph.{Graph}

-- Each listed step goes by its order, and those that leave the lowest point come first. There is a date for each point with a lower number, and the least number comes first.
pub record IsGraph (net : PlainNet) (graph : Graph) : Type 0 where
  pub right : All (λ (edge : Edge). atom_of net edge.step ≡ Some edge.atom) graph.edges.items
  pub sorted : AreEdgesSorted graph.edges.items
  pub dates : AreDates (lower net) (points net) graph.lowers.items
  pub ascending : AreAscending graph.lowers.items

-- a step of the calendar, with its order
abbrev pub IsCalendarWay : PlainNet → Edge → Type 0
IsCalendarWay net edge = IsDated edge.step × (atom_of net edge.step ≡ Some edge.atom)

-- a step that may be taken: one of the list, or one of the calendar
abbrev pub IsWay : PlainNet → Graph → Edge → Type 0
IsWay net graph edge = Contains graph.edges.items edge ⊎ IsCalendarWay net edge

-- all edges leave a point, to points below n
abbrev pub AreEdgesLeaving : ℕ → ℕ → List Edge → Type 0
AreEdgesLeaving point n edges = All (λ (edge : Edge). (edge.atom.from ≡ point) × (edge.atom.to < n)) edges

-- the step of the calendar from a point with an upper number to one with a lower number
abbrev pub date_edge : Date → Date → Edge
date_edge upper lower = record {
  step = Calendar upper.point lower.point;
  atom = record { from = upper.point; to = lower.point; strict = int_lt upper.number lower.number };
}

-- the edge is such a step to one of some points
abbrev pub IsDateEdge : Date → List Date → Edge → Type 0
IsDateEdge upper lowers edge = Any (λ (lower : Date). edge ≡ date_edge upper lower) lowers
