-- The tree of a drill apart from the places of its nodes, and that its text is that of the drill.
use Rattle.std.proofs.Common.{◌≡◌, ℕ, List, [], ◌∷◌, ◌++◌, refl, ap, ◌∙◌, append_assoc}
use Rattle.std.specs.Prelude.{codes, decimal}
use Rattle.std.specs.List.{flat_map}
use Rattle.std.proofs.lemmas.List.{append-nil}
use Rattle.std.proofs.lemmas.List.Concat.{flat_map-append}
use Rattle.net_core.specs.Rels.{rel_text}
use Rattle.tml_refs.specs.declared.document.DocLink.{DocLink}
use Rattle.tml_span.specs.Units.{Attribute, Kind, text, end_tag}
use Rattle.tml_span.specs.Written.{double_quote, unit_text, written}
use Rattle.tml_tree.specs.Plain.{PlainNode, text_node, element, nodes_of}
use Rattle.tml_tree.specs.Written.{kinds_of, all_kinds, node_text, root_text}
use Rattle.drill.specs.Texts.{event_name, instance_name, drill_interval_lines, drill_link_line}

-- an attribute between double quotes, whatever its place
abbrev pub attribute : List ℕ → List ℕ → Attribute
attribute name value = record { start = 0; end = 0; name = name; value = value; quote = double_quote }

-- the LF that ends each line
abbrev pub line_end : PlainNode
line_end = text_node 0 0 (codes "\n")

-- the attributes of event i
abbrev pub event_attributes : ℕ → List Attribute
event_attributes i = attribute (codes "eid") (event_name i) ∷ attribute (codes "class") (codes "OCCURRENCE") ∷ []

-- event i, about the text `x`
abbrev pub event_node : ℕ → PlainNode
event_node i = element 0 0 (codes "EVENT") (event_attributes i) (nodes_of (text_node 0 0 (codes "x") ∷ []))

-- the attributes of its instance
abbrev pub instance_attributes : ℕ → List Attribute
instance_attributes i = attribute (codes "eiid") (instance_name i) ∷ attribute (codes "eventID") (event_name i) ∷ []

-- its instance, without children
abbrev pub instance_node : ℕ → PlainNode
instance_node i = element 0 0 (codes "MAKEINSTANCE") (instance_attributes i) (nodes_of [])

-- the nodes of the two lines of an interval
abbrev pub interval_nodes : ℕ → List PlainNode
interval_nodes i = event_node i ∷ line_end ∷ instance_node i ∷ line_end ∷ []

-- the attributes of a link
abbrev pub link_attributes : DocLink → List Attribute
link_attributes link = attribute (codes "eventInstanceID") (instance_name link.a) ∷ attribute (codes "relatedToEventInstance") (instance_name link.b) ∷ attribute (codes "relType") (rel_text link.rel) ∷ []

-- a link, without children
abbrev pub link_node : DocLink → PlainNode
link_node link = element 0 0 (codes "TLINK") (link_attributes link) (nodes_of [])

-- the nodes of the line of a link
abbrev pub link_nodes : DocLink → List PlainNode
link_nodes link = link_node link ∷ line_end ∷ []

-- what is inside the root: the intervals of these numbers, and these links
abbrev pub lines_of : List ℕ → List DocLink → List PlainNode
lines_of numbers links = flat_map interval_nodes numbers ++ flat_map link_nodes links

-- with the LF after the tag of the root
abbrev pub inner_nodes : List ℕ → List DocLink → List PlainNode
inner_nodes numbers links = line_end ∷ lines_of numbers links

-- the root
abbrev pub root_of : List ℕ → List DocLink → PlainNode
root_of numbers links = element 0 0 (codes "TimeML") [] (nodes_of (inner_nodes numbers links))

-- ---- texts

-- pieces of pieces are pieces
pub flat_map_pieces : {A B C : Type 0} (f : B → List C) (g : A → List B) (h : A → List C) → ((x : A) → flat_map f (g x) ≡ h x) → (xs : List A) → flat_map f (flat_map g xs) ≡ flat_map h xs
flat_map_pieces f g h e [] = refl
flat_map_pieces f g h e (x ∷ xs) = flat_map-append f (g x) (flat_map g xs) ∙ (λ i. e x i ++ flat_map_pieces f g h e xs i)

-- the units of nodes are those of each, one after another
pub kinds_of_nodes : (nodes : List PlainNode) → all_kinds (nodes_of nodes) ≡ flat_map kinds_of nodes
kinds_of_nodes [] = refl
kinds_of_nodes (n ∷ nodes) = ap (λ (ks : List Kind). kinds_of n ++ ks) (kinds_of_nodes nodes)

-- the text of nodes is that of each, one after another
nodes_text : (nodes : List PlainNode) → written (all_kinds (nodes_of nodes)) ≡ flat_map node_text nodes
nodes_text nodes = ap written (kinds_of_nodes nodes) ∙ flat_map_pieces unit_text kinds_of node_text (λ n. refl) nodes

-- the pieces of the lines of an interval, whose number is written three times
interval_pieces : (d q a g x n p r c s : List ℕ) → d ++ q ++ a ++ g ++ x ++ (n ++ (p ++ (d ++ q ++ (r ++ (c ++ (d ++ q)) ++ []) ++ s ++ [] ++ n))) ≡ d ++ (q ++ a ++ g ++ x ++ n) ++ (p ++ (d ++ (q ++ r) ++ (c ++ d) ++ (q ++ s ++ n)))
interval_pieces d q a g x n p r c s = simp (append_assoc, append-nil)

-- the pieces of the line of a link
link_pieces : (a b t q c p r s n : List ℕ) → a ++ q ++ (p ++ (c ++ (b ++ q)) ++ (r ++ (t ++ q) ++ [])) ++ s ++ [] ++ n ≡ a ++ (q ++ p) ++ (c ++ b) ++ (q ++ r) ++ t ++ (q ++ s ++ n)
link_pieces a b t q c p r s n = simp (append_assoc, append-nil)

-- the text of the nodes of an interval
interval_text : (i : ℕ) → flat_map node_text (interval_nodes i) ≡ drill_interval_lines i
interval_text i =
    ap (λ (bytes : List ℕ). codes "<EVENT eid=\"e" ++ bytes)
    (interval_pieces (decimal i) (codes "\"") (codes " class=\"OCCURRENCE\"") (codes ">") (codes "x</EVENT>") (codes "\n") (codes "<MAKEINSTANCE eiid=\"ei") (codes " eventID=\"") (codes "e") (codes "/>"))

-- the text of the nodes of a link
link_text : (link : DocLink) → flat_map node_text (link_nodes link) ≡ drill_link_line link
link_text link =
    ap (λ (bytes : List ℕ). codes "<TLINK eventInstanceID=\"ei" ++ bytes)
    (link_pieces (decimal link.a) (decimal link.b) (rel_text link.rel) (codes "\"") (codes "ei") (codes " relatedToEventInstance=\"") (codes " relType=\"") (codes "/>") (codes "\n"))

-- the text of all lines
lines_text : (numbers : List ℕ) (links : List DocLink) → flat_map node_text (lines_of numbers links) ≡ flat_map drill_interval_lines numbers ++ flat_map drill_link_line links
lines_text numbers links =
    flat_map-append node_text (flat_map interval_nodes numbers) (flat_map link_nodes links)
    ∙ (λ i. flat_map_pieces node_text interval_nodes drill_interval_lines interval_text numbers i ++ flat_map_pieces node_text link_nodes drill_link_line link_text links i)

-- the text of a root that has these children
closed_text : (inside : List Kind) → written ((inside ++ end_tag (codes "TimeML") ∷ []) ++ text (codes "\n") ∷ []) ≡ written inside ++ codes "</TimeML>\n"
closed_text inside = ap written (append_assoc inside (end_tag (codes "TimeML") ∷ []) (text (codes "\n") ∷ [])) ∙ flat_map-append unit_text inside (end_tag (codes "TimeML") ∷ text (codes "\n") ∷ [])

-- the text of the tree is that of the drill
pub text_is : (numbers : List ℕ) (links : List DocLink) → root_text (root_of numbers links) ≡ codes "<TimeML>\n" ++ flat_map drill_interval_lines numbers ++ flat_map drill_link_line links ++ codes "</TimeML>\n"
text_is numbers links =
    ap (λ (bytes : List ℕ). codes "<TimeML>" ++ bytes) (closed_text (all_kinds (nodes_of (inner_nodes numbers links))))
    ∙ ap (λ (bytes : List ℕ). codes "<TimeML>" ++ bytes ++ codes "</TimeML>\n") (nodes_text (inner_nodes numbers links))
    ∙ ap (λ (bytes : List ℕ). codes "<TimeML>\n" ++ bytes ++ codes "</TimeML>\n") (lines_text numbers links)
    ∙ simp append_assoc
