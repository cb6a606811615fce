-- The elements of a tree are the start and empty tags of its units.
use Rattle.std.proofs.Common.{◌≡◌, ℕ, List, [], ◌∷◌, ◌++◌, inl, inr, refl, sym, ap, ◌∙◌, append-nil}
use Rattle.std.specs.List.{filter}
use Rattle.std.proofs.lemmas.List.Elements.{filter_map-append}
use Rattle.tml_span.specs.Units.{Kind, bom, declaration, doctype, comment, text, start_tag, end_tag, empty_tag, PlainUnit}
use Rattle.tml_tree.specs.Nesting.{Item, Items, is_content, is_element}
use Rattle.tml_tree.specs.Plain.{PlainNode, PlainNodes, text_node, comment_node, element, none, more, nodes_of, unit}
use Rattle.tml_tree.specs.Walking.{PlainTag, elements, all_elements, tag_of, tags_of, ElementsAreTags}

-- a unit that is part of no item begins no tag
content_kind : (start end : ℕ) (k : Kind) (us : List PlainUnit) → tags_of (filter is_content us) ≡ tags_of us → tags_of (filter is_content (unit start end k ∷ us)) ≡ tags_of (unit start end k ∷ us)
content_kind start end bom us h = h
content_kind start end (declaration b) us h = h
content_kind start end (doctype b) us h = h
content_kind start end (comment b) us h = h
content_kind start end (text b) us h = h
content_kind start end (end_tag name) us h = h
content_kind start end (start_tag name attrs) us h = ap (λ (ts : List PlainTag). record { place = start; name = name; attrs = attrs } ∷ ts) h
content_kind start end (empty_tag name attrs) us h = ap (λ (ts : List PlainTag). record { place = start; name = name; attrs = attrs } ∷ ts) h

content_tags : (us : List PlainUnit) → tags_of (filter is_content us) ≡ tags_of us
content_tags [] = refl
content_tags (u ∷ us) = content_kind u.start u.end u.kind us (content_tags us)

-- the units of a node begin its elements
mutual
  item_tags : (n : PlainNode) (us : List PlainUnit) → Item n us → elements n ≡ tags_of us
  item_tags (text_node start end bytes) us h = rw h refl
  item_tags (comment_node start end bytes) us h = rw h refl
  item_tags (element start end name attrs children) us (inl h) = rw (h.0, h.1) refl
  item_tags (element start end name attrs children) us (inr h) =
      let tag : PlainTag = record { place = start; name = name; attrs = attrs } in
      let inner = sym (filter_map-append tag_of h.0 (unit h.2 end (end_tag name) ∷ []) ∙ append-nil (tags_of h.0)) in
      rw (h.3) (ap (λ (ts : List PlainTag). tag ∷ ts) (items_tags children h.0 h.4 ∙ inner))

  items_tags : (ns : PlainNodes) (us : List PlainUnit) → Items ns us → all_elements ns ≡ tags_of us
  items_tags none us h = rw h refl
  items_tags (more n ns) us h = rw (h.2, filter_map-append tag_of h.0 h.1, item_tags n h.0 h.3, items_tags ns h.1 h.4) refl

-- texts and comments hold no element
only_elements : (nodes : List PlainNode) → all_elements (nodes_of nodes) ≡ all_elements (nodes_of (filter is_element nodes))
only_elements [] = refl
only_elements (text_node start end bytes ∷ nodes) = only_elements nodes
only_elements (comment_node start end bytes ∷ nodes) = only_elements nodes
only_elements (element start end name attrs children ∷ nodes) = ap (λ (ts : List PlainTag). elements (element start end name attrs children) ++ ts) (only_elements nodes)

pub elements_are_tags : ElementsAreTags
elements_are_tags = λ root us d.
    let nodes = d.1.0 in
    let all : all_elements (nodes_of nodes) ≡ elements root ++ [] = only_elements nodes ∙ ap (λ (ns : List PlainNode). all_elements (nodes_of ns)) d.1.2 in
    sym (all ∙ append-nil (elements root)) ∙ items_tags (nodes_of nodes) (filter is_content us) d.1.1 ∙ content_tags us
