-- Serves the code: what a builder takes, and what it has open.
use Rattle.std.specs.Prelude.{ℕ, List, map, reverse}
use Rattle.std.specs.List.{filter}
use Rattle.tml_span.specs.declared.unit.Span.{Span}
use Rattle.tml_span.specs.Units.{Kind, PlainUnit, start_tag, empty_tag}
use Rattle.tml_span.specs.declared.unit.Attr.{Attr}
use Rattle.tml_span.specs.View.{attribute_of}
use Rattle.tml_tree.specs.declared.builder.Frame.{Frame}
use Rattle.tml_tree.specs.declared.tag_name.TagName.{TagName}
use Rattle.tml_tree.specs.declared.node.Node.{Node}
use Rattle.tml_tree.specs.TagNames.{text_of}
use Rattle.tml_tree.specs.Plain.{PlainNode, element, nodes_of, unit}
use Rattle.tml_tree.specs.Nesting.{OpenTag, is_element}
use Rattle.tml_tree.specs.View.{node_of}

-- a unit of that kind at a span
abbrev pub at_span : Span → Kind → PlainUnit
at_span span kind = unit span.start span.end kind

-- a start tag and an empty tag at a span
abbrev pub start_unit : Span → List ℕ → List Attr → PlainUnit
start_unit span name attrs = at_span span (start_tag name (map attribute_of attrs))

abbrev pub empty_unit : Span → List ℕ → List Attr → PlainUnit
empty_unit span name attrs = at_span span (empty_tag name (map attribute_of attrs))

-- an element at a span
abbrev pub element_of : Span → TagName → List Attr → List Node → PlainNode
element_of span name attrs children = element span.start span.end (text_of name) (map attribute_of attrs) (nodes_of (map node_of children))

-- the elements among some nodes
abbrev pub elements_in : List Node → List PlainNode
elements_in nodes = filter is_element (map node_of nodes)

abbrev pub frame_name : Frame → List ℕ
frame_name f = text_of f.name

-- the open names, the innermost first
abbrev pub names_of : List Frame → List (List ℕ)
names_of frames = map frame_name (reverse frames)

abbrev pub open_tag_of : Frame → OpenTag
open_tag_of f = record { start = f.span.start; end = f.span.end; name = text_of f.name; attrs = map attribute_of f.attrs; before = map node_of f.before.items }

abbrev pub open_tags_of : List Frame → List OpenTag
open_tags_of frames = map open_tag_of (reverse frames)
