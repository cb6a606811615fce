-- Trees apart from the places of their nodes, and how they are written.
use Rattle.std.specs.Prelude.{◌≡◌, ℕ, ◌+◌, ◌<◌, Bool, true, false, ◌&&◌, List, [], ◌∷◌, ◌++◌, length, codes, ⊤}
use Rattle.std.specs.List.{list_all}
use Rattle.tml_span.specs.Bytes.{is_white}
use Rattle.tml_span.specs.Units.{Kind, text, comment, start_tag, end_tag, empty_tag}
use Rattle.tml_span.specs.Written.{AreWritable, unit_text, tag_attributes, written}
use Rattle.tml_tree.specs.Plain.{PlainNode, PlainNodes, text_node, comment_node, element, none, more}
use Rattle.tml_tree.specs.TagNames.{is_known, is_link, is_root}
use Rattle.tml_tree.specs.Whole.{IsTreeOf}

-- The units of a node, whatever its place: an element without children is an empty tag.
abbrev mutual
  pub kinds_of : PlainNode → List Kind
  kinds_of (text_node start end bytes) = text bytes ∷ []
  kinds_of (comment_node start end bytes) = comment bytes ∷ []
  kinds_of (element start end name attrs none) = empty_tag name attrs ∷ []
  kinds_of (element start end name attrs (more n ns)) = start_tag name attrs ∷ all_kinds (more n ns) ++ end_tag name ∷ []

  pub all_kinds : PlainNodes → List Kind
  all_kinds none = []
  all_kinds (more n ns) = kinds_of n ++ all_kinds ns

-- the text of a node, and how long it is
abbrev pub node_text : PlainNode → List ℕ
node_text node = written (kinds_of node)

abbrev pub size_of : PlainNode → ℕ
size_of node = length (node_text node)

-- The same node where its text is written at a place; nodes that are written one after another from a place on.
abbrev mutual
  pub node_at : ℕ → PlainNode → PlainNode
  node_at place (text_node start end bytes) = text_node place (place + length bytes) bytes
  node_at place (comment_node start end bytes) = comment_node place (place + length bytes) bytes
  node_at place (element start end name attrs none) =
      element place (place + size_of (element start end name attrs none)) name (tag_attributes place name attrs) none
  node_at place (element start end name attrs (more n ns)) =
      element place (place + size_of (element start end name attrs (more n ns))) name (tag_attributes place name attrs)
      (nodes_at (place + length (unit_text (start_tag name attrs))) (more n ns))

  pub nodes_at : ℕ → PlainNodes → PlainNodes
  nodes_at place none = none
  nodes_at place (more n ns) = more (node_at place n) (nodes_at (place + size_of n) ns)

-- ---- where nodes may stand

-- inside a link tag there is a text only where it is white space, and no element
abbrev pub may_be_in_link : PlainNode → Bool
may_be_in_link (text_node start end bytes) = list_all is_white bytes
may_be_in_link (comment_node start end bytes) = true
may_be_in_link (element start end name attrs children) = false

abbrev pub all_may_be_in_link : PlainNodes → Bool
all_may_be_in_link none = true
all_may_be_in_link (more n ns) = may_be_in_link n && all_may_be_in_link ns

-- A node may stand inside this number of elements: an element of a known name other than the root's, no more than 32 inside each other, and what is in it may stand there.
abbrev mutual
  pub MayStand : ℕ → PlainNode → Type 0
  MayStand depth (text_node start end bytes) = ⊤
  MayStand depth (comment_node start end bytes) = ⊤
  MayStand depth (element start end name attrs children) =
      (is_known name ≡ true) × (is_root name ≡ false) × (depth < 32)
      × (is_link name ≡ true → all_may_be_in_link children ≡ true) × AllMayStand (depth + 1) children

  pub AllMayStand : ℕ → PlainNodes → Type 0
  AllMayStand depth none = ⊤
  AllMayStand depth (more n ns) = MayStand depth n × AllMayStand depth ns

-- the root is an element `TimeML`, and what is in it may stand there
abbrev pub MayBeRoot : PlainNode → Type 0
MayBeRoot (element start end name attrs children) = (name ≡ codes "TimeML") × AllMayStand 1 children
MayBeRoot node = ⊥

-- the text of a root, and an LF after it
abbrev pub root_kinds : PlainNode → List Kind
root_kinds root = kinds_of root ++ text (codes "\n") ∷ []

abbrev pub root_text : PlainNode → List ℕ
root_text root = written (root_kinds root)

-- a tree that is written is read again as it was, but for places
abbrev pub WrittenIsRead : Type 0
WrittenIsRead = (root : PlainNode) → MayBeRoot root → AreWritable (root_kinds root) → IsTreeOf (root_text root) (node_at 0 root)
