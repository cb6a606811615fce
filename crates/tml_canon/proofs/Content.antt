-- What is in the canonical text of the tree of a source: units that can be written, in UTF-8.
use Rattle.std.proofs.Common.{◌≡◌, inl, inr, ℕ, true, false, cond, List, [], ◌∷◌, ◌++◌, map, refl, sym, subst}
use Rattle.std.specs.Prelude.{codes, IsUtf8, ⊤}
use Rattle.std.specs.List.{All, AllByRecursion, filter, flat_map}
use Rattle.std.proofs.lemmas.List.Elements.{All-from_recursion}
use Rattle.std.proofs.lemmas.Str.{IsUtf8-append, IsUtf8-nil}
use Rattle.named.proofs.Lists.{each_joined, each_kept, each_parts}
use Rattle.tml_span.specs.Pieces.{IsGoodAttribute, IsGoodKind, IsGoodTag, IsGoodUnit}
use Rattle.tml_span.specs.Units.{Attribute, Kind, PlainUnit, comment, empty_tag, end_tag, start_tag, text}
use Rattle.tml_span.specs.Written.{IsAttribute, IsContent, IsTag, attribute_text, unit_text, written}
use Rattle.tml_span.proofs.Pieces.{units_are_good}
use Rattle.tml_span.proofs.Utf8.{ascii_utf8, three_utf8}
use Rattle.tml_tree.specs.Nesting.{Item, Items, is_content, is_element}
use Rattle.tml_tree.specs.Plain.{PlainNode, PlainNodes, comment_node, element, more, nodes_of, none, text_node}
use Rattle.tml_tree.specs.Whole.{IsTreeOf}
use Rattle.tml_tree.specs.Written.{all_kinds, kinds_of, root_kinds}
use Rattle.tml_canon.specs.Canonical.{canonical, canonical_attribute, canonical_attributes, canonical_nodes, canonical_text, in_order}
use Rattle.tml_canon.proofs.Ordered.{all_in_order}
use Rattle.tml_canon.proofs.Quoting.{no_references, quoted_references, quoted_utf8, quoted_value}

-- ---- nodes of a source

-- A node is good where the units that it is made of are.
abbrev mutual
  IsGoodNode : PlainNode → Type 0
  IsGoodNode (text_node start end bytes) = IsGoodKind (text bytes)
  IsGoodNode (comment_node start end bytes) = IsGoodKind (comment bytes)
  IsGoodNode (element start end name attrs children) = IsGoodTag name attrs × AreGoodNodes children

  AreGoodNodes : PlainNodes → Type 0
  AreGoodNodes none = ⊤
  AreGoodNodes (more n ns) = IsGoodNode n × AreGoodNodes ns

mutual
  -- a node of good units is good
  item_is_good : (n : PlainNode) (us : List PlainUnit) → Item n us → AllByRecursion IsGoodUnit us → IsGoodNode n
  item_is_good (text_node start end bytes) us i h = (subst (λ (vs : List PlainUnit). AllByRecursion IsGoodUnit vs) i h).0
  item_is_good (comment_node start end bytes) us i h = (subst (λ (vs : List PlainUnit). AllByRecursion IsGoodUnit vs) i h).0
  item_is_good (element start end name attrs children) us (inl i) h =
      let here = (subst (λ (vs : List PlainUnit). AllByRecursion IsGoodUnit vs) i.1 h).0 in
      (here, subst (λ (ns : PlainNodes). AreGoodNodes ns) (sym i.0) tt)
  item_is_good (element start end name attrs children) us (inr i) h =
      let all = subst (λ (vs : List PlainUnit). AllByRecursion IsGoodUnit vs) i.3 h in
      let inner = each_parts IsGoodUnit i.0 _ all.1 in
      (all.0, items_are_good children i.0 i.4 inner.0)

  -- nodes of good units are good
  items_are_good : (ns : PlainNodes) (us : List PlainUnit) → Items ns us → AllByRecursion IsGoodUnit us → AreGoodNodes ns
  items_are_good none us i h = tt
  items_are_good (more n ns) us i h =
      let all = each_parts IsGoodUnit i.0 i.1 (subst (λ (vs : List PlainUnit). AllByRecursion IsGoodUnit vs) i.2 h) in
      (item_is_good n i.0 i.3 all.0, items_are_good ns i.1 i.4 all.1)

-- an element among good nodes is good
among_good : (nodes : List PlainNode) (root : PlainNode) (rest : List PlainNode) → filter is_element nodes ≡ root ∷ rest → AreGoodNodes (nodes_of nodes) → IsGoodNode root
among_good [] root rest e h = absurd cc
among_good (n ∷ nodes) root rest e h =
    elim (is_element n) as (λ b. cond b (n ∷ filter is_element nodes) (filter is_element nodes) ≡ root ∷ rest → IsGoodNode root) [
      | true ↦ λ k. let same : n ≡ root = cc in subst (λ (m : PlainNode). IsGoodNode m) same h.0
      | false ↦ λ k. among_good nodes root rest k h.1
    ] e

-- the root of a source is good
root_is_good : (source : List ℕ) (root : PlainNode) → IsTreeOf source root → IsGoodNode root
root_is_good source root t =
    let units = units_are_good source t.0 t.1 in
    among_good t.2.1.0 root [] t.2.1.2 (items_are_good (nodes_of t.2.1.0) (filter is_content t.0) t.2.1.1 (each_kept IsGoodUnit is_content t.0 units))

-- ---- canonical attributes

-- an attribute that can be written, in UTF-8
abbrev IsReady : Attribute → Type 0
IsReady a = IsAttribute a × IsUtf8 (attribute_text a)

-- with its value quoted, a good attribute can be written and is UTF-8
attribute_ready : (a : Attribute) → IsGoodAttribute a → IsReady (canonical_attribute a)
attribute_ready a h =
    let b = canonical_attribute a in
    let name = three_utf8 (codes " ") a.name (codes "=\"") (ascii_utf8 (codes " ") refl) h.name_utf8 (ascii_utf8 (codes "=\"") refl) in
    ((h.named, quoted_value a.value h.value, quoted_references a.value h.references), three_utf8 (codes " " ++ a.name ++ codes "=\"") b.value (codes "\"") name (quoted_utf8 a.value h.value_utf8) (ascii_utf8 (codes "\"") refl))

-- with their values quoted, good attributes can be written and are UTF-8
each_ready : (attrs : List Attribute) → AllByRecursion IsGoodAttribute attrs → AllByRecursion IsReady (map canonical_attribute attrs)
each_ready [] h = tt
each_ready (a ∷ attrs) h = (attribute_ready a h.0, each_ready attrs h.1)

-- the attributes of a canonical tag can be written and are UTF-8
attributes_ready : (attrs : List Attribute) → AllByRecursion IsGoodAttribute attrs → AllByRecursion IsReady (canonical_attributes attrs)
attributes_ready attrs h = each_ready (in_order attrs) (all_in_order IsGoodAttribute attrs h)

-- ---- canonical units

-- a unit that can be written, in UTF-8
abbrev IsReadyKind : Kind → Type 0
IsReadyKind kind = IsContent kind × IsUtf8 (unit_text kind)

-- attributes that can be written, in UTF-8, make UTF-8 together
ready_attributes : (attrs : List Attribute) → AllByRecursion IsReady attrs → AllByRecursion IsAttribute attrs × IsUtf8 (flat_map attribute_text attrs)
ready_attributes [] h = (tt, IsUtf8-nil)
ready_attributes (a ∷ attrs) h =
    let rest = ready_attributes attrs h.1 in
    ((h.0.0, rest.0), IsUtf8-append (attribute_text a) (flat_map attribute_text attrs) h.0.1 rest.1)

-- a canonical tag can be written, and up to its closing bytes it is UTF-8
tag_ready : (name : List ℕ) (attrs : List Attribute) → IsGoodTag name attrs → IsTag name (canonical_attributes attrs) × IsUtf8 (codes "<" ++ name ++ flat_map attribute_text (canonical_attributes attrs))
tag_ready name attrs h =
    let both = ready_attributes (canonical_attributes attrs) (attributes_ready attrs h.attributes) in
    ((h.named, All-from_recursion IsAttribute (canonical_attributes attrs) both.0), three_utf8 (codes "<") name (flat_map attribute_text (canonical_attributes attrs)) (ascii_utf8 (codes "<") refl) h.utf8 both.1)

-- a canonical start tag can be written and is UTF-8
start_ready : (name : List ℕ) (attrs : List Attribute) → IsGoodTag name attrs → IsReadyKind (start_tag name (canonical_attributes attrs))
start_ready name attrs h = let tag = tag_ready name attrs h in (tag.0, IsUtf8-append (codes "<" ++ name ++ flat_map attribute_text (canonical_attributes attrs)) (codes ">") tag.1 (ascii_utf8 (codes ">") refl))

-- a canonical empty tag can be written and is UTF-8
empty_ready : (name : List ℕ) (attrs : List Attribute) → IsGoodTag name attrs → IsReadyKind (empty_tag name (canonical_attributes attrs))
empty_ready name attrs h = let tag = tag_ready name attrs h in (tag.0, IsUtf8-append (codes "<" ++ name ++ flat_map attribute_text (canonical_attributes attrs)) (codes "/>") tag.1 (ascii_utf8 (codes "/>") refl))

-- the end tag of a good tag can be written and is UTF-8
end_ready : (name : List ℕ) (attrs : List Attribute) → IsGoodTag name attrs → IsReadyKind (end_tag name)
end_ready name attrs h = (h.named, three_utf8 (codes "</") name (codes ">") (ascii_utf8 (codes "</") refl) h.utf8 (ascii_utf8 (codes ">") refl))

mutual
  -- the units of a canonical node can be written where the node is good
  node_ready : (n : PlainNode) → IsGoodNode n → AllByRecursion IsReadyKind (kinds_of (canonical n))
  node_ready (text_node start end bytes) h = (h, tt)
  node_ready (comment_node start end bytes) h = (h, tt)
  node_ready (element start end name attrs none) h = (empty_ready name attrs h.0, tt)
  node_ready (element start end name attrs (more n ns)) h = (start_ready name attrs h.0, each_joined IsReadyKind (all_kinds (canonical_nodes (more n ns))) (end_tag name ∷ []) (nodes_ready (more n ns) h.1) (end_ready name attrs h.0, tt))

  -- the units of canonical nodes can be written where the nodes are good
  nodes_ready : (ns : PlainNodes) → AreGoodNodes ns → AllByRecursion IsReadyKind (all_kinds (canonical_nodes ns))
  nodes_ready none h = tt
  nodes_ready (more n ns) h = each_joined IsReadyKind (kinds_of (canonical n)) (all_kinds (canonical_nodes ns)) (node_ready n h.0) (nodes_ready ns h.1)

-- ---- the canonical text

-- the LF after a root can be written and is UTF-8
line_feed_ready : IsReadyKind (text (codes "\n"))
line_feed_ready = ((λ e. absurd cc, refl, no_references (codes "\n") refl), ascii_utf8 (codes "\n") refl)

-- the units of the canonical tree of a source can be written, and each is UTF-8
kinds_ready : (source : List ℕ) (root : PlainNode) → IsTreeOf source root → AllByRecursion IsReadyKind (root_kinds (canonical root))
kinds_ready source root t = each_joined IsReadyKind (kinds_of (canonical root)) (text (codes "\n") ∷ []) (node_ready root (root_is_good source root t)) (line_feed_ready, tt)

-- units that can be written, in UTF-8, make UTF-8 together
ready_content : (kinds : List Kind) → AllByRecursion IsReadyKind kinds → AllByRecursion IsContent kinds × IsUtf8 (written kinds)
ready_content [] h = (tt, IsUtf8-nil)
ready_content (kind ∷ kinds) h =
    let rest = ready_content kinds h.1 in
    ((h.0.0, rest.0), IsUtf8-append (unit_text kind) (written kinds) h.0.1 rest.1)

-- each unit of the canonical tree of a source is a tag, a comment or a text that can be written
pub content : (source : List ℕ) (root : PlainNode) → IsTreeOf source root → All IsContent (root_kinds (canonical root))
content source root t = All-from_recursion IsContent (root_kinds (canonical root)) (ready_content (root_kinds (canonical root)) (kinds_ready source root t)).0

-- the canonical text of the tree of a source is UTF-8
pub utf8 : (source : List ℕ) (root : PlainNode) → IsTreeOf source root → IsUtf8 (canonical_text root)
utf8 source root t = (ready_content (root_kinds (canonical root)) (kinds_ready source root t)).1
