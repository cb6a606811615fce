-- Serves the code: one unit after another: the open tags and the nodes so far.
use Rattle.std.specs.Prelude.{ℕ, List, [], ◌∷◌, ◌++◌, Option, Some, None, option_and_then, if◌then◌else◌}
use Rattle.std.specs.Str.{bytes_eq}
use Rattle.tml_span.specs.Units.{bom, declaration, doctype, comment, text, start_tag, end_tag, empty_tag, PlainUnit}
use Rattle.tml_tree.specs.Plain.{PlainNode, text_node, comment_node, element, none, nodes_of}
use Rattle.tml_tree.specs.Nesting.{OpenTag}

pub record Stage : Type 0 where
  pub tags : List OpenTag
  pub nodes : List PlainNode

-- the element that an end tag makes, where its name is that of the innermost open tag
abbrev pub closed : List OpenTag → List PlainNode → ℕ → List ℕ → Option Stage
closed [] nodes end name = None
closed (t ∷ ts) nodes end name = if bytes_eq t.name name then Some (record { tags = ts; nodes = t.before ++ element t.start end t.name t.attrs (nodes_of nodes) ∷ [] }) else None

-- the open tags and nodes after one more unit
abbrev pub step : List OpenTag → List PlainNode → PlainUnit → Option Stage
step tags nodes u = elim u.kind [
  | bom ↦ Some (record { tags = tags; nodes = nodes })
  | declaration b ↦ Some (record { tags = tags; nodes = nodes })
  | doctype b ↦ Some (record { tags = tags; nodes = nodes })
  | comment b ↦ Some (record { tags = tags; nodes = nodes ++ comment_node u.start u.end b ∷ [] })
  | text b ↦ Some (record { tags = tags; nodes = nodes ++ text_node u.start u.end b ∷ [] })
  | start_tag name attrs ↦ Some (record { tags = record { start = u.start; end = u.end; name = name; attrs = attrs; before = nodes } ∷ tags; nodes = [] })
  | empty_tag name attrs ↦ Some (record { tags = tags; nodes = nodes ++ element u.start u.end name attrs none ∷ [] })
  | end_tag name ↦ closed tags nodes u.end name
]

abbrev pub run : List OpenTag → List PlainNode → List PlainUnit → Option Stage
run tags nodes [] = Some (record { tags = tags; nodes = nodes })
run tags nodes (u ∷ us) = option_and_then (λ (s : Stage). run s.tags s.nodes us) (step tags nodes u)
