-- The elements of a tree in document order.
use Rattle.std.specs.Prelude.{◌≡◌, ℕ, List, [], ◌∷◌, ◌++◌, Option, Some, None}
use Rattle.std.specs.List.{filter_map}
use Rattle.tml_span.specs.Units.{Attribute, start_tag, empty_tag, PlainUnit}
use Rattle.tml_tree.specs.Plain.{PlainNode, PlainNodes, text_node, comment_node, element, none, more}
use Rattle.tml_tree.specs.Trees.{Document}

-- an element without its children: where it starts, its name and its attributes
pub record PlainTag : Type 0 where
  pub place : ℕ
  pub name : List ℕ
  pub attrs : List Attribute

-- an element is before those inside it, and these are in their order
abbrev mutual
  pub elements : PlainNode → List PlainTag
  elements (text_node start end bytes) = []
  elements (comment_node start end bytes) = []
  elements (element start end name attrs children) = record { place = start; name = name; attrs = attrs } ∷ all_elements children

  pub all_elements : PlainNodes → List PlainTag
  all_elements none = []
  all_elements (more n ns) = elements n ++ all_elements ns

-- the tag that a unit begins, if it begins one
abbrev pub tag_of : PlainUnit → Option PlainTag
tag_of u = elim u.kind [
  | start_tag name attrs ↦ Some (record { place = u.start; name = name; attrs = attrs })
  | empty_tag name attrs ↦ Some (record { place = u.start; name = name; attrs = attrs })
  | _ ↦ None
]

abbrev pub tags_of : List PlainUnit → List PlainTag
tags_of us = filter_map tag_of us

-- the elements of a tree are the start and empty tags of its units, in their order
abbrev pub ElementsAreTags : Type 0
ElementsAreTags = (root : PlainNode) (us : List PlainUnit) → Document root us → elements root ≡ tags_of us
