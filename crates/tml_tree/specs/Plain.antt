-- Plain trees.
use Rattle.std.specs.Prelude.{ℕ, List, [], ◌∷◌}
use Rattle.tml_span.specs.Units.{Attribute, Kind, PlainUnit}

-- a text or a comment has its start, its end and its bytes; an element its start, its end, its name, its attributes and its children
mutual
  pub data PlainNode : Type 0 where
    text_node : ℕ → ℕ → List ℕ → PlainNode
    comment_node : ℕ → ℕ → List ℕ → PlainNode
    element : ℕ → ℕ → List ℕ → List Attribute → PlainNodes → PlainNode

  pub data PlainNodes : Type 0 where
    none : PlainNodes
    more : PlainNode → PlainNodes → PlainNodes

-- a list of nodes as the children of one
abbrev pub nodes_of : List PlainNode → PlainNodes
nodes_of [] = none
nodes_of (n ∷ ns) = more n (nodes_of ns)

-- a unit of that kind
abbrev pub unit : ℕ → ℕ → Kind → PlainUnit
unit start end kind = record { start = start; end = end; kind = kind }
