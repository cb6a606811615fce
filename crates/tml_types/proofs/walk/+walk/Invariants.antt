use Rattle.std.proofs.Common.{◌≡◌, ◌++◌, List, map, drop}
use Rattle.tml_tree.specs.Plain.{nodes_of}
use Rattle.tml_tree.specs.View.{node_of, tag_node}
use Rattle.tml_tree.specs.Walking.{PlainTag, elements, all_elements}
use Rattle.tml_types.specs.Walking.{AddsTyped}
use Rattle.tml_types.proofs.walk.+walk.Given as goal

-- some tags are typed, and after them come those of the children that are left
abbrev pub invariant-type_tag-loop-child : goal.invariant-type_tag-loop-child
invariant-type_tag-loop-child l =
    (done : List PlainTag) × (done ++ all_elements (nodes_of (map node_of (drop l.child-index l.child-items))) ≡ elements (tag_node l.tag)) × AddsTyped done l.fn.typed l.typed
