-- The canonical text of a tag, piece by piece.
use Rattle.std.proofs.Common.{◌≡◌, ℕ, suc, ◌+◌, ◌<◌, ◌≤◌, true, false, add-one, drop-cons, List, [], ◌∷◌, ◌++◌, length, drop, get_or, map, refl, sym, ap, ◌∙◌, append_assoc}
use Rattle.std.specs.Prelude.{◌==◌, codes}
use Rattle.std.proofs.lemmas.Bool.{eqb-true, eqb-false}
use Rattle.std.proofs.lemmas.List.{append-nil, drop_all, nil_from_length}
use Rattle.std.proofs.lemmas.Grind.{flat_map-append}
use Rattle.tml_span.specs.Units.{Attribute, start_tag, end_tag}
use Rattle.tml_span.specs.View.{attribute_of}
use Rattle.tml_span.specs.Written.{unit_text, written}
use Rattle.tml_tree.specs.declared.node.Tag.{Tag}
use Rattle.tml_tree.specs.declared.node.Node.{Node}
use Rattle.tml_tree.specs.Plain.{PlainNode, PlainNodes, none, more, element, nodes_of}
use Rattle.tml_tree.specs.TagNames.{text_of}
use Rattle.tml_tree.specs.View.{node_of, tag_node}
use Rattle.tml_tree.specs.Written.{all_kinds, kinds_of, node_text}
use Rattle.tml_tree.proofs.Rows.{element_is}
use Rattle.tml_canon.specs.Canonical.{canonical, canonical_nodes, canonical_attributes, opening}

-- the text of nodes one after another
abbrev pub nodes_text : PlainNodes → List ℕ
nodes_text nodes = written (all_kinds nodes)

-- the text of the first node, and that of the others
pub nodes_text-more : (n : PlainNode) (ns : PlainNodes) → nodes_text (more n ns) ≡ node_text n ++ nodes_text ns
nodes_text-more n ns = flat_map-append unit_text (kinds_of n) (all_kinds ns)

-- an end tag
abbrev pub closing : List ℕ → List ℕ
closing name = codes "</" ++ name ++ codes ">"

-- the text of an element without children is that of an empty tag
pub empty_text : (name : List ℕ) (attrs : List Attribute) → node_text (element 0 0 name attrs none) ≡ opening name attrs ++ codes "/>"
empty_text name attrs = append-nil (opening name attrs ++ codes "/>")

-- the text of an element with children is that of a start tag, these and an end tag
pub full_text : (name : List ℕ) (attrs : List Attribute) (n : PlainNode) (ns : PlainNodes)
    → node_text (element 0 0 name attrs (more n ns)) ≡ opening name attrs ++ codes ">" ++ nodes_text (more n ns) ++ closing name
full_text name attrs n ns =
    let inner : written (all_kinds (more n ns) ++ end_tag name ∷ []) ≡ nodes_text (more n ns) ++ closing name =
    flat_map-append unit_text (all_kinds (more n ns)) (end_tag name ∷ []) ∙ ap (λ (s : List ℕ). nodes_text (more n ns) ++ s) (append-nil (closing name)) in
    ap (λ (s : List ℕ). unit_text (start_tag name attrs) ++ s) inner ∙ sym (append_assoc (unit_text (start_tag name attrs)) (nodes_text (more n ns)) (closing name))

-- the canonical text of children
abbrev pub children_text : List Node → List ℕ
children_text children = nodes_text (canonical_nodes (nodes_of (map node_of children)))

-- the first part of the canonical text of a tag
abbrev pub tag_opening : Tag → List ℕ
tag_opening tag = opening (text_of tag.name) (canonical_attributes (map attribute_of tag.attrs))

-- the canonical text of a tag, were these its children
element_text : Tag → List Node → List ℕ
element_text tag children = node_text (canonical (element tag.span.start tag.span.end (text_of tag.name) (map attribute_of tag.attrs) (nodes_of (map node_of children))))

-- it is that of the tag at its own children
tag_text_is : (tag : Tag) → node_text (canonical (tag_node tag)) ≡ element_text tag tag.children.items
unfolding element_text
tag_text_is tag = ap (λ (n : PlainNode). node_text (canonical n)) (element_is tag)

-- a tag without children is written as an empty tag
tag_without_children : (tag : Tag) → tag.children.items ≡ [] → tag_opening tag ++ codes "/>" ≡ node_text (canonical (tag_node tag))
unfolding element_text
tag_without_children tag e = sym (tag_text_is tag ∙ ap (element_text tag) e ∙ empty_text (text_of tag.name) (canonical_attributes (map attribute_of tag.attrs)))

-- with one child or more it is a start tag, these and an end tag
full_element : (tag : Tag) (children : List Node) → (children ≡ [] → ⊥) → tag_opening tag ++ codes ">" ++ children_text children ++ closing (text_of tag.name) ≡ element_text tag children
unfolding element_text
full_element tag [] some = absurd (some refl)
full_element tag (n ∷ ns) some = sym (full_text (text_of tag.name) (canonical_attributes (map attribute_of tag.attrs)) (canonical (node_of n)) (canonical_nodes (nodes_of (map node_of ns))))

-- a tag with children is written as a start tag, these and an end tag
tag_with_children : (tag : Tag) → (tag.children.items ≡ [] → ⊥) → tag_opening tag ++ codes ">" ++ children_text tag.children.items ++ closing (text_of tag.name) ≡ node_text (canonical (tag_node tag))
tag_with_children tag some = full_element tag tag.children.items some ∙ sym (tag_text_is tag)

-- after the text of a child comes that of the children that are left
pub next_child : (out all : List ℕ) (children : List Node) (i : ℕ) (child : Node) → i < length children → child ≡ get_or children i child
    → out ++ children_text (drop i children) ≡ all → (out ++ node_text (canonical (node_of child))) ++ children_text (drop (i + 1) children) ≡ all
next_child out all children i child below e k =
    let next : drop i children ≡ child ∷ drop (suc i) children = drop-cons children i child below ∙ ap (λ (n : Node). n ∷ drop (suc i) children) (sym e) in
    let parts : children_text (drop i children) ≡ node_text (canonical (node_of child)) ++ children_text (drop (suc i) children) =
    ap children_text next ∙ nodes_text-more (canonical (node_of child)) (canonical_nodes (nodes_of (map node_of (drop (suc i) children)))) in
    rw (add-one i) (append_assoc out (node_text (canonical (node_of child))) (children_text (drop (suc i) children)) ∙ ap (λ (s : List ℕ). out ++ s) (sym parts) ∙ k)

-- an empty tag is put last
pub empty_put : (out opened : List ℕ) (tag : Tag) (children : List Node) → opened ≡ out ++ tag_opening tag → children ≡ tag.children.items → true ≡ (length children == 0) → opened ++ codes "/>" ≡ out ++ node_text (canonical (tag_node tag))
empty_put out opened tag children e same empty =
    let nothing : tag.children.items ≡ [] = sym same ∙ nil_from_length children (eqb-true _ _ (sym empty)) in
    ap (λ (s : List ℕ). s ++ codes "/>") e ∙ append_assoc out (tag_opening tag) (codes "/>") ∙ ap (λ (s : List ℕ). out ++ s) (tag_without_children tag nothing)

-- how the parts are grouped does not matter
regrouped : (a b c d e : List ℕ) → ((a ++ b ++ c) ++ d) ++ e ≡ a ++ (b ++ c ++ d ++ e)
regrouped a b c d e = simp append_assoc

-- an end tag is put last, after the start tag and the children
pub full_put : (out done : List ℕ) (tag : Tag) (children : List Node) (i : ℕ) → children ≡ tag.children.items → length children ≤ i → false ≡ (length children == 0)
    → done ++ children_text (drop i children) ≡ (out ++ tag_opening tag ++ codes ">") ++ children_text children → done ++ closing (text_of tag.name) ≡ out ++ node_text (canonical (tag_node tag))
full_put out done tag children i same all some e =
    let inner = children_text tag.children.items in
    let some_child : tag.children.items ≡ [] → ⊥ = λ none_there. eqb-false _ _ (sym some) (ap length (same ∙ none_there)) in
    let put : done ≡ (out ++ tag_opening tag ++ codes ">") ++ inner =
    sym (append-nil done)
    ∙ ap (λ (ns : List Node). done ++ children_text ns) (sym (drop_all i children all))
    ∙ e
    ∙ ap (λ (ns : List Node). (out ++ tag_opening tag ++ codes ">") ++ children_text ns) same in
    ap (λ (s : List ℕ). s ++ closing (text_of tag.name)) put
    ∙ regrouped out (tag_opening tag) (codes ">") inner (closing (text_of tag.name))
    ∙ ap (λ (s : List ℕ). out ++ s) (tag_with_children tag some_child)
