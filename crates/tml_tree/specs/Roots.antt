-- The elements outside all others.
use Rattle.std.specs.Prelude.{◌≡◌, List, [], ◌∷◌, ◌++◌, ◌⊎◌}
use Rattle.std.specs.List.{filter}
use Rattle.tml_tree.specs.Plain.{PlainNode}
use Rattle.tml_tree.specs.Nesting.{OpenTag, is_element}

-- the nodes before the outermost open tag
abbrev pub outer : List OpenTag → List PlainNode → List PlainNode
outer [] nodes = nodes
outer (t ∷ ts) nodes = outer ts t.before

-- none while a tag is open, and then at most one
abbrev pub AtMostOne : List OpenTag → List PlainNode → Type 0
AtMostOne [] nodes = (filter is_element nodes ≡ []) ⊎ ((root : PlainNode) × (filter is_element nodes ≡ root ∷ []))
AtMostOne (t ∷ ts) nodes = filter is_element (outer ts t.before) ≡ []

abbrev pub EndsIn : PlainNode → List PlainNode → Type 0
EndsIn n ns = (prefix : List PlainNode) × (ns ≡ prefix ++ n ∷ [])
