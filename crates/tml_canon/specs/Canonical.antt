-- The canonical text of a tree.
use Rattle.std.specs.Prelude.{◌≡◌, ℕ, Bool, ◌==◌, List, [], ◌∷◌, ◌++◌, codes, map, if◌then◌else◌}
use Rattle.std.specs.Cmp.Lexicographic.{slice_cmp}
use Rattle.std.specs.List.{flat_map}
use Rattle.std.specs.Ordering.{is_gt, nat_cmp}
use Rattle.tml_span.specs.Units.{Attribute}
use Rattle.tml_span.specs.Written.{attribute_text, double_quote}
use Rattle.tml_tree.specs.Plain.{PlainNode, PlainNodes, text_node, comment_node, element, none, more}
use Rattle.tml_tree.specs.Whole.{IsTreeOf}
use Rattle.tml_tree.specs.Written.{root_text}

-- ---- attributes

-- a byte of a value between double quotes
abbrev pub quoted_byte : ℕ → List ℕ
quoted_byte b = if b == double_quote then codes "&quot;" else b ∷ []

-- a value between double quotes: `&quot;` stands for each `"`, and nothing else changes
abbrev pub quoted : List ℕ → List ℕ
quoted value = flat_map quoted_byte value

-- the name of one attribute comes after that of another one, byte by byte
abbrev pub is_after : Attribute → Attribute → Bool
is_after a b = is_gt (slice_cmp nat_cmp a.name b.name)

-- an attribute in its place among others, before those of its name
abbrev pub placed : Attribute → List Attribute → List Attribute
placed a [] = a ∷ []
placed a (b ∷ attrs) = if is_after a b then b ∷ placed a attrs else a ∷ b ∷ attrs

-- attributes in the byte order of their names; those of one name keep their order
abbrev pub in_order : List Attribute → List Attribute
in_order [] = []
in_order (a ∷ attrs) = placed a (in_order attrs)

-- an attribute with its value between double quotes, whatever its place
abbrev pub canonical_attribute : Attribute → Attribute
canonical_attribute a = record { start = 0; end = 0; name = a.name; value = quoted a.value; quote = double_quote }

abbrev pub canonical_attributes : List Attribute → List Attribute
canonical_attributes attrs = map canonical_attribute (in_order attrs)

-- what a start tag and an empty tag begin with
abbrev pub opening : List ℕ → List Attribute → List ℕ
opening name attrs = codes "<" ++ name ++ flat_map attribute_text attrs

-- ---- trees

-- A tree whose attributes are canonical. Texts, comments, names and the order of children stay, and places are nothing.
abbrev mutual
  pub canonical : PlainNode → PlainNode
  canonical (text_node start end bytes) = text_node 0 0 bytes
  canonical (comment_node start end bytes) = comment_node 0 0 bytes
  canonical (element start end name attrs children) = element 0 0 name (canonical_attributes attrs) (canonical_nodes children)

  pub canonical_nodes : PlainNodes → PlainNodes
  canonical_nodes none = none
  canonical_nodes (more n ns) = more (canonical n) (canonical_nodes ns)

-- the canonical text of a root: its tree as it is written, and a line feed
abbrev pub canonical_text : PlainNode → List ℕ
canonical_text root = root_text (canonical root)

-- a source has a tree, and this is the canonical text of it
abbrev pub IsCanonicalText : List ℕ → List ℕ → Type 0
IsCanonicalText source text = (root : PlainNode) × IsTreeOf source root × (text ≡ canonical_text root)
