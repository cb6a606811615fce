-- The children of a tag as a list.
use Rattle.std.proofs.Common.{◌≡◌, List, map, refl, ap, ◌∙◌}
use mathlib.Core.Former.{Count}
use Rattle.tml_span.specs.View.{attribute_of}
use Rattle.tml_tree.specs.declared.node.Tag.{Tag}
use Rattle.tml_tree.specs.declared.node.Node.{Node, Element, Element', Row_of-Node, end_of-Node, more_of-Node, items-the_row-Node, items_hidden-the_row-Node-0}
use Rattle.tml_tree.specs.TagNames.{text_of}
use Rattle.tml_tree.specs.Plain.{PlainNodes, more, element, nodes_of}
use Rattle.tml_tree.specs.View.{node_of, row_of}

row_is : (m : _) (row : Row_of-Node m) → row_of row ≡ nodes_of (map node_of (items-the_row-Node m row))
row_is m end_of-Node = refl
row_is m (more_of-Node n rest) = ap (λ (ns : PlainNodes). more (node_of n) ns) (row_is _ rest)

abbrev children_row : Node → (n : Count) × Row_of-Node n
children_row (Element' span name attrs shape row) = (_, row)
children_row _ = (_, end_of-Node)

-- an element has its children as a list
pub element_is : (tag : Tag) → node_of (Element tag) ≡ element tag.span.start tag.span.end (text_of tag.name) (map attribute_of tag.attrs) (nodes_of (map node_of tag.children.items))
element_is tag =
    let row = children_row (Element tag) in
    ap (λ (ns : PlainNodes). element tag.span.start tag.span.end (text_of tag.name) (map attribute_of tag.attrs) ns)
    (row_is row.0 row.1 ∙ ap (λ (l : List Node). nodes_of (map node_of l)) (items_hidden-the_row-Node-0 tag.children))
