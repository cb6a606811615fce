-- How units nest: items, and the tags that are still open.
use Rattle.std.specs.Prelude.{◌≡◌, ℕ, Bool, true, false, List, [], ◌∷◌, ◌++◌, ◌⊎◌, map}
use Rattle.std.specs.List.{filter, list_any}
use Rattle.tml_span.specs.Units.{Attribute, bom, declaration, doctype, comment, text, start_tag, end_tag, empty_tag, PlainUnit}
use Rattle.tml_tree.specs.Plain.{PlainNode, PlainNodes, text_node, comment_node, element, none, more, nodes_of, unit}

-- The units of a node: the one unit of a text or comment; of an element an empty tag, where it has no children, or a start tag, the units of its children in order, and an end tag of the same name.
abbrev mutual
  pub Item : PlainNode → List PlainUnit → Type 0
  Item (text_node start end bytes) us = us ≡ unit start end (text bytes) ∷ []
  Item (comment_node start end bytes) us = us ≡ unit start end (comment bytes) ∷ []
  Item (element start end name attrs children) us =
      ((children ≡ none) × (us ≡ unit start end (empty_tag name attrs) ∷ []))
      ⊎ ((inner : List PlainUnit) × (stop : ℕ) × (turn : ℕ) × (us ≡ unit start stop (start_tag name attrs) ∷ inner ++ unit turn end (end_tag name) ∷ []) × Items children inner)

  pub Items : PlainNodes → List PlainUnit → Type 0
  Items none us = us ≡ []
  Items (more n ns) us = (prefix : List PlainUnit) × (suffix : List PlainUnit) × (us ≡ prefix ++ suffix) × Item n prefix × Items ns suffix

-- a start tag that is still open, and the nodes before it, back to the start tag that is open about it
pub record OpenTag : Type 0 where
  pub start : ℕ
  pub end : ℕ
  pub name : List ℕ
  pub attrs : List Attribute
  pub before : List PlainNode

abbrev pub tag_unit : OpenTag → PlainUnit
tag_unit t = unit t.start t.end (start_tag t.name t.attrs)

abbrev pub open_name : OpenTag → List ℕ
open_name t = t.name

-- whole items, and for each open tag, the innermost first, its start tag and then whole items
abbrev pub LeavesOpen : List PlainUnit → List OpenTag → List PlainNode → Type 0
LeavesOpen us [] nodes = Items (nodes_of nodes) us
LeavesOpen us (t ∷ ts) nodes = (prefix : List PlainUnit) × (suffix : List PlainUnit) × (us ≡ prefix ++ tag_unit t ∷ suffix) × LeavesOpen prefix ts t.before × Items (nodes_of nodes) suffix

-- a Bom, a declaration and a doctype are part of no item
abbrev pub is_content : PlainUnit → Bool
is_content u = elim u.kind [ bom ↦ false | declaration b ↦ false | doctype b ↦ false | _ ↦ true ]

abbrev pub is_element : PlainNode → Bool
is_element (element start end name attrs children) = true
is_element n = false

-- the root was seen whole: no tag is open, and an element is among the items
abbrev pub is_seen : List OpenTag → List PlainNode → Bool
is_seen [] nodes = list_any is_element nodes
is_seen (t ∷ ts) nodes = false

-- by nesting alone the tags of these names are open, the innermost first, and the root was or was not seen whole
abbrev pub Nests : List PlainUnit → List (List ℕ) → Bool → Type 0
Nests us names seen = (tags : List OpenTag) × (nodes : List PlainNode) × LeavesOpen (filter is_content us) tags nodes × (names ≡ map open_name tags) × (seen ≡ is_seen tags nodes)
