use Rattle.std.proofs.Common.{◌≡◌, map, vec_len}
use Rattle.std.specs.List.{filter}
use Rattle.tml_tree.specs.Nesting.{is_element}
use Rattle.tml_tree.specs.View.{node_of}
use Rattle.tml_tree.proofs.builder.root_of.Given as goal

abbrev pub invariant-loop-node : goal.invariant-loop-node
invariant-loop-node l = filter is_element (map node_of l.nodes.items) ≡ filter is_element (map node_of l.fn.nodes.items)

abbrev pub decreases-loop-node : goal.decreases-loop-node
decreases-loop-node l = vec_len l.nodes
