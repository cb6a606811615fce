-- A tree that is written is read again.
use Rattle.std.proofs.Common.{◌≡◌, ℕ, ◌+◌, Bool, true, false, cond, ◌||◌, List, [], ◌∷◌, ◌++◌, codes, refl, sym, ap, subst, ◌∙◌, None}
use Rattle.std.specs.List.{filter, list_any}
use Rattle.std.proofs.lemmas.Bool.{both_ways}
use Rattle.faults.proofs.First.{none_breaks_nil}
use Rattle.tml_span.specs.Units.{Attribute, text, start_tag, empty_tag, PlainUnit}
use Rattle.tml_span.specs.Written.{tag_attributes, unit_at, units_at}
use Rattle.tml_tree.specs.Plain.{PlainNode, text_node, comment_node, element, none, more}
use Rattle.tml_tree.specs.Nesting.{is_element}
use Rattle.tml_tree.specs.Rules.{history_of}
use Rattle.tml_tree.specs.TagNames.{is_link}
use Rattle.tml_tree.specs.Judging.{first_fault}
use Rattle.tml_tree.specs.Trees.{BreaksUnitRule, Document}
use Rattle.tml_tree.specs.Written.{kinds_of, size_of, node_at, MayBeRoot, root_kinds, WrittenIsRead}
use Rattle.tml_span.proofs.Written.{written_is_cut}
use Rattle.tml_tree.proofs.WrittenPlaces.{units_append, empty_end, inside_at}
use Rattle.tml_tree.proofs.WrittenRules.{Reaches, reaches_first, reaches_more, open_at, element_reached, nodes_reached}

-- where an element and one other node are reached, the element is the root
pub document_reached : (us : List PlainUnit) (root leaf : PlainNode) → is_element root ≡ true → is_element leaf ≡ false → Reaches us [] (root ∷ leaf ∷ []) → Document root us
document_reached us root leaf e k r =
    let seen : true ≡ (is_element root || (is_element leaf || false)) = ap (λ (b : Bool). b || (is_element leaf || false)) (sym e) in
    let alone : cond (is_element root) (root ∷ filter is_element (leaf ∷ [])) (filter is_element (leaf ∷ [])) ≡ root ∷ [] =
    ap (λ (b : Bool). cond b (root ∷ filter is_element (leaf ∷ [])) (filter is_element (leaf ∷ []))) e ∙ ap (λ (b : Bool). root ∷ cond b (leaf ∷ []) []) k in
    ((([], root ∷ leaf ∷ [], r.opens, refl, seen), r.lawful), (root ∷ leaf ∷ [], r.opens, alone))

-- a root tag is allowed where no unit is before it
root_allowed : (name : List ℕ) (attrs : List Attribute) → name ≡ codes "TimeML" → first_fault (history_of [] [] false) (start_tag name attrs) ≡ None
root_allowed name attrs e = ap (λ (n : List ℕ). first_fault (history_of [] [] false) (start_tag n attrs)) e

-- the tag of a root is no link tag
root_is_no_link : (name : List ℕ) → name ≡ codes "TimeML" → list_any is_link (name ∷ []) ≡ false
root_is_no_link name e = ap (λ (n : List ℕ). list_any is_link (n ∷ [])) e

-- the units of a root lead to it alone
root_reached : (root : PlainNode) → MayBeRoot root → Reaches (units_at 0 (kinds_of root)) [] (node_at 0 root ∷ []) × (is_element (node_at 0 root) ≡ true)
root_reached (text_node start end bytes) m = absurd m
root_reached (comment_node start end bytes) m = absurd m
root_reached (element start end name attrs none) m =
    let first = unit_at 0 (empty_tag name attrs) in (
      subst (λ (p : ℕ). Reaches (first ∷ []) [] (element 0 p name (tag_attributes 0 name attrs) none ∷ [])) (empty_end 0 start end name attrs)
          (reaches_first [] first [] [] _ refl (none_breaks_nil BreaksUnitRule) refl refl (root_allowed name (tag_attributes 0 name attrs) m.0)),
      refl,
    )
root_reached (element start end name attrs (more n ns)) m =
    let first = unit_at 0 (start_tag name attrs) in
    let t = open_at 0 name attrs [] in
    let opened : Reaches (first ∷ []) (t ∷ []) [] = reaches_first [] first [] [] (record { tags = t ∷ []; nodes = [] }) refl (none_breaks_nil BreaksUnitRule) refl refl (root_allowed name (tag_attributes 0 name attrs) m.0) in (
      element_reached 0 [] [] [] start end name attrs n ns
          (nodes_reached (more n ns) (inside_at 0 name attrs) (first ∷ []) t [] [] m.1 (λ k. absurd (both_ways (list_any is_link (name ∷ [])) (root_is_no_link name m.0) k)) opened),
      refl,
    )

-- and with the LF after it they make its tree
root_read : (root : PlainNode) → MayBeRoot root → Document (node_at 0 root) (units_at 0 (root_kinds root))
root_read root m =
    let r = root_reached root m in
    let last = unit_at (0 + size_of root) (text (codes "\n")) in
    let leaf = text_node last.start last.end (codes "\n") in
    let all = reaches_more (units_at 0 (kinds_of root)) last [] (node_at 0 root ∷ []) (record { tags = []; nodes = node_at 0 root ∷ leaf ∷ [] }) r.0 refl refl in
    subst (λ (us : List PlainUnit). Document (node_at 0 root) us) (sym (units_append 0 (kinds_of root) (text (codes "\n") ∷ []))) (document_reached (units_at 0 (kinds_of root) ++ last ∷ []) (node_at 0 root) leaf r.1 refl all)

-- the tree of a text that is written is the one that was written
pub written_is_read : WrittenIsRead
written_is_read = λ root m w. (units_at 0 (root_kinds root), written_is_cut (root_kinds root) w, root_read root m)
