-- Units none of which breaks a rule.
use Rattle.std.proofs.Common.{◌≡◌, inl, inr, ℕ, Bool, false, ◌||◌, List, [], ◌∷◌, ◌++◌, map, refl, sym, ap, ◌∙◌}
use Rattle.std.specs.List.{filter, list_any}
use Rattle.std.proofs.lemmas.Bool.{false_from_ne_true}
use Rattle.std.proofs.lemmas.List.Folds.{list_any-append}
use Rattle.faults.specs.First.{NoneBreaks}
use Rattle.faults.specs.declared.kind.FaultKind.{FaultKind}
use Rattle.tml_span.specs.Units.{Kind, bom, declaration, doctype, PlainUnit}
use Rattle.tml_tree.specs.Plain.{unit, PlainNode, text_node, comment_node, element, nodes_of}
use Rattle.tml_tree.specs.Nesting.{Item, Items, OpenTag, LeavesOpen, open_name, is_seen, is_content, is_element}
use Rattle.tml_tree.specs.Rules.{history_of, is_at_fault, is_tag}
use Rattle.tml_tree.specs.Trees.{BreaksUnitRule}

-- no unit is at fault, given what the units before it have open
pub not_at_fault : (done us : List PlainUnit) (u : PlainUnit) (tags : List OpenTag) (nodes : List PlainNode) → LeavesOpen (filter is_content done) tags nodes → NoneBreaks BreaksUnitRule (done ++ u ∷ us) → (kind : FaultKind)
    → is_at_fault kind (history_of done (map open_name tags) (is_seen tags nodes)) u.kind ≡ false
not_at_fault done us u tags nodes o lawful kind =
    false_from_ne_true (is_at_fault kind (history_of done (map open_name tags) (is_seen tags nodes)) u.kind) (λ e. lawful done us u kind refl (map open_name tags, is_seen tags nodes, (tags, nodes, o, refl, refl), e))

-- ---- tags among units

-- the units of an element have a tag, and those of another node have none
item_tagged : (node : PlainNode) (us : List PlainUnit) → Item node us → list_any is_tag us ≡ is_element node
item_tagged (text_node start end bytes) us h = ap (λ (vs : List PlainUnit). list_any is_tag vs) h
item_tagged (comment_node start end bytes) us h = ap (λ (vs : List PlainUnit). list_any is_tag vs) h
item_tagged (element start end name attrs children) us (inl h) = ap (λ (vs : List PlainUnit). list_any is_tag vs) h.1
item_tagged (element start end name attrs children) us (inr h) = ap (λ (vs : List PlainUnit). list_any is_tag vs) h.3

-- the units of nodes have a tag where an element is among the nodes
items_tagged : (nodes : List PlainNode) (us : List PlainUnit) → Items (nodes_of nodes) us → list_any is_tag us ≡ list_any is_element nodes
items_tagged [] us h = ap (λ (vs : List PlainUnit). list_any is_tag vs) h
items_tagged (n ∷ nodes) us h =
    ap (λ (vs : List PlainUnit). list_any is_tag vs) h.2 ∙ list_any-append is_tag h.0 h.1 ∙ (λ i. item_tagged n h.0 h.3 i || items_tagged nodes h.1 h.4 i)

-- a unit that is part of no item is no tag
content_kind_tagged : (start end : ℕ) (k : Kind) (us : List PlainUnit) → list_any is_tag (filter is_content us) ≡ list_any is_tag us → list_any is_tag (filter is_content (unit start end k ∷ us)) ≡ list_any is_tag (unit start end k ∷ us)
content_kind_tagged start end bom us h = h
content_kind_tagged start end (declaration b) us h = h
content_kind_tagged start end (doctype b) us h = h
content_kind_tagged start end k us h = ap (λ (b : Bool). is_tag (unit start end k) || b) h

-- units have a tag where one is part of an item
content_tagged : (us : List PlainUnit) → list_any is_tag (filter is_content us) ≡ list_any is_tag us
content_tagged [] = refl
content_tagged (u ∷ us) = content_kind_tagged u.start u.end u.kind us (content_tagged us)

-- where no tag is open, there was a tag only where there was an element
pub tagged_is_seen : (us : List PlainUnit) (nodes : List PlainNode) → LeavesOpen (filter is_content us) [] nodes → list_any is_tag us ≡ list_any is_element nodes
tagged_is_seen us nodes o = sym (content_tagged us) ∙ items_tagged nodes (filter is_content us) o
