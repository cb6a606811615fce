-- Trees that are the same but for places, quotes and the order of attributes.
use Rattle.std.specs.Prelude.{◌≡◌, ℕ, Bool, ◌&&◌, List, ⊤}
use Rattle.std.specs.List.{count_by}
use Rattle.std.specs.Str.{bytes_eq}
use Rattle.tml_span.specs.Units.{Attribute}
use Rattle.tml_tree.specs.Plain.{PlainNode, PlainNodes, text_node, comment_node, element, none, more}
use Rattle.tml_canon.specs.Canonical.{quoted}

-- an attribute has this name, and this value with `&quot;` for each `"`
abbrev pub says : List ℕ → List ℕ → Attribute → Bool
says name value a = bytes_eq a.name name && bytes_eq (quoted a.value) value

-- of each name and value there are as many
abbrev pub SameAttributes : List Attribute → List Attribute → Type 0
SameAttributes attrs others = (name value : List ℕ) → count_by (says name value) attrs ≡ count_by (says name value) others

-- the same names, texts, comments and children in order, and the same attributes in any order
abbrev mutual
  pub Same : PlainNode → PlainNode → Type 0
  Same (text_node start end bytes) (text_node from to others) = bytes ≡ others
  Same (comment_node start end bytes) (comment_node from to others) = bytes ≡ others
  Same (element start end name attrs children) (element from to other others nodes) = (name ≡ other) × SameAttributes attrs others × AllSame children nodes
  Same node other = ⊥

  pub AllSame : PlainNodes → PlainNodes → Type 0
  AllSame none none = ⊤
  AllSame (more n ns) (more m ms) = Same n m × AllSame ns ms
  AllSame ns ms = ⊥
