-- Trees that are the same.
use Rattle.std.proofs.Common.{◌≡◌, ℕ, ◌+◌, List, length, refl, sym, ap, ap₂, ◌∙◌}
use Rattle.tml_span.specs.Units.{Attribute, start_tag}
use Rattle.tml_span.specs.Written.{unit_text}
use Rattle.tml_tree.specs.Plain.{PlainNode, PlainNodes, text_node, comment_node, element, none, more}
use Rattle.tml_tree.specs.Written.{node_at, nodes_at, root_text, size_of}
use Rattle.tml_canon.specs.Canonical.{canonical, canonical_attributes, canonical_nodes}
use Rattle.tml_canon.specs.Laws.{CanonicalIsItself, CanonicalIsSame}
use Rattle.tml_canon.specs.Same.{AllSame, Same}
use Rattle.tml_canon.proofs.Ordered.{canonical_attributes_again, canonical_attributes_same}

-- ---- two trees, and three

mutual
  -- trees are the same either way
  pub same_back : (n m : PlainNode) → Same n m → Same m n
  same_back (text_node s e bytes) (text_node t f others) h = sym h
  same_back (text_node s e bytes) (comment_node t f others) h = absurd h
  same_back (text_node s e bytes) (element t f name attrs children) h = absurd h
  same_back (comment_node s e bytes) (text_node t f others) h = absurd h
  same_back (comment_node s e bytes) (comment_node t f others) h = sym h
  same_back (comment_node s e bytes) (element t f name attrs children) h = absurd h
  same_back (element s e name attrs children) (text_node t f others) h = absurd h
  same_back (element s e name attrs children) (comment_node t f others) h = absurd h
  same_back (element s e name attrs children) (element t f other others nodes) h = (sym h.0, λ name value. sym (h.1 name value), all_same_back children nodes h.2)

  -- and so are nodes one after another
  all_same_back : (ns ms : PlainNodes) → AllSame ns ms → AllSame ms ns
  all_same_back none none h = tt
  all_same_back none (more m ms) h = absurd h
  all_same_back (more n ns) none h = absurd h
  all_same_back (more n ns) (more m ms) h = (same_back n m h.0, all_same_back ns ms h.1)

mutual
  -- a tree is the same as what is the same as one that it is the same as
  pub same_on : (n m k : PlainNode) → Same n m → Same m k → Same n k
  same_on (text_node s e bytes) (text_node t f others) (text_node u g more_bytes) h i = h ∙ i
  same_on (text_node s e bytes) (text_node t f others) (comment_node u g more_bytes) h i = absurd i
  same_on (text_node s e bytes) (text_node t f others) (element u g name attrs children) h i = absurd i
  same_on (text_node s e bytes) (comment_node t f others) k h i = absurd h
  same_on (text_node s e bytes) (element t f name attrs children) k h i = absurd h
  same_on (comment_node s e bytes) (comment_node t f others) (comment_node u g more_bytes) h i = h ∙ i
  same_on (comment_node s e bytes) (comment_node t f others) (text_node u g more_bytes) h i = absurd i
  same_on (comment_node s e bytes) (comment_node t f others) (element u g name attrs children) h i = absurd i
  same_on (comment_node s e bytes) (text_node t f others) k h i = absurd h
  same_on (comment_node s e bytes) (element t f name attrs children) k h i = absurd h
  same_on (element s e name attrs children) (text_node t f others) k h i = absurd h
  same_on (element s e name attrs children) (comment_node t f others) k h i = absurd h
  same_on (element s e name attrs children) (element t f other others nodes) (text_node u g bytes) h i = absurd i
  same_on (element s e name attrs children) (element t f other others nodes) (comment_node u g bytes) h i = absurd i
  same_on (element s e name attrs children) (element t f other others nodes) (element u g third last leaves) h i =
      (h.0 ∙ i.0, λ said value. h.1 said value ∙ i.1 said value, all_same_on children nodes leaves h.2 i.2)

  -- and so are nodes one after another
  all_same_on : (ns ms ks : PlainNodes) → AllSame ns ms → AllSame ms ks → AllSame ns ks
  all_same_on none none none h i = tt
  all_same_on none none (more k ks) h i = absurd i
  all_same_on none (more m ms) ks h i = absurd h
  all_same_on (more n ns) none ks h i = absurd h
  all_same_on (more n ns) (more m ms) none h i = absurd i
  all_same_on (more n ns) (more m ms) (more k ks) h i = (same_on n m k h.0 i.0, all_same_on ns ms ks h.1 i.1)

-- ---- canonical trees that are written

-- where the attributes of a tag of this name begin that is written at a place
abbrev inside : ℕ → List ℕ → ℕ
inside place name = place + 1 + length name

mutual
  -- a tree is the same as its canonical one, wherever it is written
  same_as_canonical : (place : ℕ) (n : PlainNode) → Same n (node_at place (canonical n))
  same_as_canonical place (text_node s e bytes) = refl
  same_as_canonical place (comment_node s e bytes) = refl
  same_as_canonical place (element s e name attrs none) = (refl, canonical_attributes_same (inside place name) attrs, tt)
  same_as_canonical place (element s e name attrs (more n ns)) =
      (refl, canonical_attributes_same (inside place name) attrs, all_same_as_canonical (place + length (unit_text (start_tag name (canonical_attributes attrs)))) (more n ns))

  -- and so are nodes one after another
  all_same_as_canonical : (place : ℕ) (ns : PlainNodes) → AllSame ns (nodes_at place (canonical_nodes ns))
  all_same_as_canonical place none = tt
  all_same_as_canonical place (more n ns) = (same_as_canonical place n, all_same_as_canonical (place + size_of (canonical n)) ns)

-- the tree of the canonical text of a root is the same as the root
pub canonical_is_same : CanonicalIsSame
canonical_is_same = λ root. same_as_canonical 0 root

mutual
  -- a canonical tree that is written is its own canonical tree
  canonical_tree_again : (place : ℕ) (n : PlainNode) → canonical (node_at place (canonical n)) ≡ canonical n
  canonical_tree_again place (text_node s e bytes) = refl
  canonical_tree_again place (comment_node s e bytes) = refl
  canonical_tree_again place (element s e name attrs none) = ap (λ (all : List Attribute). element 0 0 name all none) (canonical_attributes_again (inside place name) attrs)
  canonical_tree_again place (element s e name attrs (more n ns)) = ap₂ (λ (all : List Attribute) (children : PlainNodes). element 0 0 name all children)
      (canonical_attributes_again (inside place name) attrs)
      (canonical_trees_again (place + length (unit_text (start_tag name (canonical_attributes attrs)))) (more n ns))

  -- and so are nodes one after another
  canonical_trees_again : (place : ℕ) (ns : PlainNodes) → canonical_nodes (nodes_at place (canonical_nodes ns)) ≡ canonical_nodes ns
  canonical_trees_again place none = refl
  canonical_trees_again place (more n ns) = ap₂ (λ (m : PlainNode) (ms : PlainNodes). more m ms) (canonical_tree_again place n) (canonical_trees_again (place + size_of (canonical n)) ns)

-- a canonical text is its own canonical text
pub canonical_is_itself : CanonicalIsItself
canonical_is_itself = λ root. ap root_text (canonical_tree_again 0 root)
