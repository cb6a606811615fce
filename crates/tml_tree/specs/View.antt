-- The plain values of tags and nodes.
use Rattle.std.specs.Prelude.{map}
use Rattle.tml_span.specs.View.{attribute_of}
use Rattle.tml_tree.specs.declared.node.Tag.{Tag}
use Rattle.tml_tree.specs.declared.node.Node.{Node, Element, Text, Comment, Element', Row_of-Node, end_of-Node, more_of-Node}
use Rattle.tml_tree.specs.TagNames.{text_of}
use Rattle.tml_tree.specs.Plain.{PlainNode, PlainNodes, text_node, comment_node, element, none, more}

abbrev mutual
  pub node_of : Node → PlainNode
  node_of (Text span b) = text_node span.start span.end b.now
  node_of (Comment span b) = comment_node span.start span.end b.now
  node_of (Element' span name attrs shape children) = element span.start span.end (text_of name) (map attribute_of attrs) (row_of children)

  pub row_of : {m : _} → Row_of-Node m → PlainNodes
  row_of end_of-Node = none
  row_of (more_of-Node n rest) = more (node_of n) (row_of rest)

abbrev pub tag_node : Tag → PlainNode
tag_node t = node_of (Element t)
