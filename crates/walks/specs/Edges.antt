-- Serves the code: steps with the orders that they go by.
use Rattle.std.specs.Prelude.{◌≡◌, ◌↔◌, ◌⊎◌, ℕ, ⊤, Bool, List, Some}
use Rattle.std.specs.List.{Contains}
use Rattle.std.specs.List.Sorted.{IsNonDecreasingBy}
use Rattle.net_core.specs.Nets.{PlainNet}
use Rattle.net_core.specs.Steps.{GoesBy, atom_of}
use Rattle.net_core.specs.Walks.{Kept}
use Rattle.net_core.specs.declared.step.Step.{Step}
use Rattle.net_core.specs.declared.step.Step.TheVariants.{Calendar, Link, Span}
use Rattle.walks.specs.declared.edges.Edge.{Edge}

-- the step is one over a span
abbrev pub IsSpan : Step → Type 0
IsSpan (Span i) = ⊤
IsSpan step = ⊥

-- the step is one over a link of a set
abbrev pub IsOver : (ℕ → Type 0) → Step → Type 0
IsOver Chosen (Link k i) = Chosen k
IsOver Chosen step = ⊥

-- the step is one of the calendar
abbrev pub IsDated : Step → Type 0
IsDated (Calendar p q) = ⊤
IsDated step = ⊥

-- the new list has the old edges, and those steps of a set that go by an order
abbrev pub AddsEdges : PlainNet → (Step → Type 0) → List Edge → List Edge → Type 0
AddsEdges net Listed old new = (edge : Edge) → Contains new edge ↔ (Contains old edge ⊎ (Listed edge.step × (atom_of net edge.step ≡ Some edge.atom)))

-- the list has all steps but those of the calendar, over the links that are kept
abbrev pub AreEdges : PlainNet → List Bool → List Edge → Type 0
AreEdges net keep edges = (edge : Edge) → Contains edges edge ↔ ((IsDated edge.step → ⊥) × GoesBy net (Kept keep) edge.step edge.atom)

-- the edges that leave the lowest point come first
abbrev pub AreEdgesSorted : List Edge → Type 0
AreEdgesSorted edges = IsNonDecreasingBy (λ (edge : Edge). edge.atom.from) edges

-- the edges that leave a point, of all of a list
abbrev pub AreEdgesFrom : ℕ → List Edge → List Edge → Type 0
AreEdgesFrom point all edges = (edge : Edge) → Contains edges edge ↔ (Contains all edge × (edge.atom.from ≡ point))
