-- Where the nodes of a tree are in their source.
use Rattle.std.specs.Prelude.{◌≡◌, ℕ, suc, ◌+◌, ◌≤◌, max, List, length, slice_range}
use Rattle.std.specs.List.{AllByRecursion}
use Rattle.tml_span.specs.Slices.{IsAt, AttributeIsIn}
use Rattle.tml_tree.specs.Plain.{PlainNode, PlainNodes, text_node, comment_node, element, none, more}
use Rattle.tml_tree.specs.Whole.{IsTreeOf}

-- each slice is the source at its place: a text and a comment at their spans, a name after `<`, and those of attributes
abbrev mutual
  pub HasSlices : List ℕ → PlainNode → Type 0
  HasSlices source (text_node start end bytes) = slice_range source start end ≡ bytes
  HasSlices source (comment_node start end bytes) = slice_range source start end ≡ bytes
  HasSlices source (element start end name attrs children) = IsAt source (start + 1) name × AllByRecursion (AttributeIsIn source) attrs × HaveSlices source children

  pub HaveSlices : List ℕ → PlainNodes → Type 0
  HaveSlices source none = Unit {0}
  HaveSlices source (more n ns) = HasSlices source n × HaveSlices source ns

abbrev pub start_of : PlainNode → ℕ
start_of (text_node start end bytes) = start
start_of (comment_node start end bytes) = start
start_of (element start end name attrs children) = start

abbrev pub end_of : PlainNode → ℕ
end_of (text_node start end bytes) = end
end_of (comment_node start end bytes) = end
end_of (element start end name attrs children) = end

-- a node does not end before it starts, and its children follow each other between the two; nodes follow each other from a place up to another
abbrev mutual
  pub IsInOrder : PlainNode → Type 0
  IsInOrder (text_node start end bytes) = start ≤ end
  IsInOrder (comment_node start end bytes) = start ≤ end
  IsInOrder (element start end name attrs children) = AreInOrder start children end

  pub AreInOrder : ℕ → PlainNodes → ℕ → Type 0
  AreInOrder low none high = low ≤ high
  AreInOrder low (more n ns) high = (low ≤ start_of n) × IsInOrder n × AreInOrder (end_of n) ns high

-- how many elements are inside each other
abbrev mutual
  pub depth_of : PlainNode → ℕ
  depth_of (text_node start end bytes) = 0
  depth_of (comment_node start end bytes) = 0
  depth_of (element start end name attrs children) = suc (deepest children)

  pub deepest : PlainNodes → ℕ
  deepest none = 0
  deepest (more n ns) = max (depth_of n) (deepest ns)

-- slices are the source at their places, siblings follow each other inside their parent, the root ends in the source, and at most 32 elements are inside each other
pub record IsLaidOut (source : List ℕ) (root : PlainNode) : Type 0 where
  pub slices : HasSlices source root
  pub order : IsInOrder root
  pub within : end_of root ≤ length source
  pub depth : depth_of root ≤ 32

-- the tree of a source is laid out so
abbrev pub TreeIsLaidOut : Type 0
TreeIsLaidOut = (source : List ℕ) (root : PlainNode) → IsTreeOf source root → IsLaidOut source root
