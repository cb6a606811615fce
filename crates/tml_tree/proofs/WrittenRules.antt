-- No unit of a node that is written breaks a rule.
use Rattle.std.proofs.Common.{◌≡◌, ℕ, Bool, true, false, cond, not, ◌&&◌, ◌||◌, nat_le, ◌+◌, ◌<◌, List, [], ◌∷◌, ◌++◌, map, length, refl, sym, ap, subst, ◌∙◌, append_assoc, arith, Some, None}
use Rattle.std.specs.List.{filter, list_any, list_all}
use Rattle.std.proofs.lemmas.List.{append-nil, length-map}
use Rattle.std.proofs.lemmas.Bool.{both_ways, false_from_ne_true, and_parts}
use Rattle.std.proofs.lemmas.Bool.Decides.{nat_tests}
use Rattle.std.proofs.Math.Bool.{or-false}
use Rattle.named.proofs.Lists.{any_more}
use Rattle.faults.specs.First.{NoneBreaks}
use Rattle.tml_span.specs.Bytes.{is_white}
use Rattle.tml_span.specs.Units.{Attribute, text, comment, start_tag, end_tag, empty_tag, PlainUnit}
use Rattle.tml_span.specs.Written.{tag_attributes, unit_at, units_at}
use Rattle.tml_tree.specs.Plain.{PlainNode, PlainNodes, text_node, comment_node, element, none, more, nodes_of}
use Rattle.tml_tree.specs.Nesting.{OpenTag, LeavesOpen, open_name, is_seen, is_content}
use Rattle.tml_tree.specs.Rules.{is_tag, history_of}
use Rattle.tml_tree.specs.TagNames.{is_known, is_link, is_root}
use Rattle.tml_tree.specs.Stage.{Stage, step}
use Rattle.tml_tree.specs.Judging.{first_fault}
use Rattle.tml_tree.specs.Trees.{BreaksUnitRule}
use Rattle.tml_tree.specs.Written.{kinds_of, all_kinds, size_of, node_at, nodes_at, may_be_in_link, all_may_be_in_link, MayStand, AllMayStand}
use Rattle.tml_tree.proofs.FirstFaults.{first_of}
use Rattle.tml_tree.proofs.Paths.{lawful_more}
use Rattle.tml_tree.proofs.Running.{list_of, nodes_list, same_name, opens_step}
use Rattle.tml_tree.proofs.WrittenPlaces.{units_append, empty_end, inside_at, turn_at, element_end}

-- these units lead to these open tags and nodes, none of them breaks a rule, and one of them is a tag
pub record Reaches (us : List PlainUnit) (tags : List OpenTag) (nodes : List PlainNode) : Type 0 where
  pub opens : LeavesOpen (filter is_content us) tags nodes
  pub lawful : NoneBreaks BreaksUnitRule us
  pub tagged : list_any is_tag us ≡ true

-- one more unit that no rule forbids, where it or one before it is a tag
pub reaches_first : (us : List PlainUnit) (u : PlainUnit) (tags : List OpenTag) (nodes : List PlainNode) (s : Stage) → LeavesOpen (filter is_content us) tags nodes → NoneBreaks BreaksUnitRule us → (list_any is_tag us || is_tag u) ≡ true
    → step tags nodes u ≡ Some s → first_fault (history_of us (map open_name tags) (is_seen tags nodes)) u.kind ≡ None → Reaches (us ++ u ∷ []) s.tags s.nodes
reaches_first us u tags nodes s o l t e f = record {
  opens = opens_step us u tags nodes s o e;
  lawful = lawful_more us u (map open_name tags) (is_seen tags nodes) ((tags, nodes, o, refl, refl), l) f;
  tagged = any_more is_tag us u ∙ t;
}

-- the same where a tag is before it
pub reaches_more : (us : List PlainUnit) (u : PlainUnit) (tags : List OpenTag) (nodes : List PlainNode) (s : Stage) → Reaches us tags nodes → step tags nodes u ≡ Some s
    → first_fault (history_of us (map open_name tags) (is_seen tags nodes)) u.kind ≡ None → Reaches (us ++ u ∷ []) s.tags s.nodes
reaches_more us u tags nodes s r e f = reaches_first us u tags nodes s r.opens r.lawful (ap (λ (b : Bool). b || is_tag u) r.tagged) e f

-- ---- rules

-- a text is in no way at fault where it is white space or no link tag is open
text_rule : (white link : Bool) → (link ≡ true → white ≡ true) → first_of false false (not white && link) false ≡ None
text_rule true link h = refl
text_rule false false h = refl
text_rule false true h = let same = h refl in absurd cc

-- a text inside a tag is allowed where it is white space or in no link tag
text_allowed : (us : List PlainUnit) (name : List ℕ) (names : List (List ℕ)) (bytes : List ℕ) → (list_any is_link (name ∷ names) ≡ true → list_all is_white bytes ≡ true) → first_fault (history_of us (name ∷ names) false) (text bytes) ≡ None
text_allowed us name names bytes h = text_rule (list_all is_white bytes) (list_any is_link (name ∷ names)) h

-- a start tag of a known name other than the root's is allowed inside few tags none of which is a link tag
tag_allowed : (us : List PlainUnit) (outer : List ℕ) (names : List (List ℕ)) (name : List ℕ) (attrs : List Attribute) → list_any is_tag us ≡ true → is_known name ≡ true → is_root name ≡ false → list_any is_link (outer ∷ names) ≡ false
    → nat_le 32 (length (outer ∷ names)) ≡ false → first_fault (history_of us (outer ∷ names) false) (start_tag name attrs) ≡ None
tag_allowed us outer names name attrs t k r l d = λ i. first_of (not (k i)) false (l i || not (t i) && not (r i) || false || true && r i) (d i)

-- fewer than 32 tags are open
is_flat : (tags : List OpenTag) → length tags < 32 → nat_le 32 (length (map open_name tags)) ≡ false
is_flat tags h = let same : length (map open_name tags) ≡ length tags = simp length-map in rw same (grind (arith, nat_tests))

-- where a tag may stand no link tag is open
no_link : (b : Bool) → (b ≡ true → false ≡ true) → b ≡ false
no_link b h = false_from_ne_true b (λ e. both_ways false refl (h e))

-- ---- nodes

-- the start tag of an element that is written at a place
abbrev pub open_at : ℕ → List ℕ → List Attribute → List PlainNode → OpenTag
open_at place name attrs before = record { start = place; end = inside_at place name attrs; name = name; attrs = tag_attributes place name attrs; before = before }

-- an element is whole after its start tag, its children and its end tag
pub element_reached : (place : ℕ) (done : List PlainUnit) (tags : List OpenTag) (nodes : List PlainNode) (start end : ℕ) (name : List ℕ) (attrs : List Attribute) (n : PlainNode) (ns : PlainNodes)
    → Reaches ((done ++ unit_at place (start_tag name attrs) ∷ []) ++ units_at (inside_at place name attrs) (all_kinds (more n ns))) (open_at place name attrs nodes ∷ tags) (list_of (nodes_at (inside_at place name attrs) (more n ns)))
    → Reaches (done ++ units_at place (kinds_of (element start end name attrs (more n ns)))) tags (nodes ++ node_at place (element start end name attrs (more n ns)) ∷ [])
element_reached place done tags nodes start end name attrs n ns r =
    let t = open_at place name attrs nodes in
    let first = unit_at place (start_tag name attrs) in
    let inner = inside_at place name attrs in
    let kinds = all_kinds (more n ns) in
    let turn = turn_at place name attrs (more n ns) in
    let last = unit_at turn (end_tag name) in
    let children = nodes_at inner (more n ns) in
    let before = (done ++ first ∷ []) ++ units_at inner kinds in
    let after : Stage = record { tags = tags; nodes = nodes ++ element place last.end name t.attrs (nodes_of (list_of children)) ∷ [] } in
    let closed = reaches_more before last (t ∷ tags) (list_of children) after r (ap (λ (b : Bool). cond b (Some after) None) (same_name name)) (ap (λ (b : Bool). first_of false (not b) false false) (same_name name)) in
    let whole : before ++ last ∷ [] ≡ done ++ first ∷ units_at inner (kinds ++ end_tag name ∷ []) =
    append_assoc (done ++ first ∷ []) (units_at inner kinds) (last ∷ []) ∙ append_assoc done (first ∷ []) (units_at inner kinds ++ last ∷ []) ∙ ap (λ (us : List PlainUnit). done ++ first ∷ us) (sym (units_append inner kinds (end_tag name ∷ []))) in
    let stop = element_end place start end name attrs n ns in
    let row = nodes_list children in
    subst (λ (p : List PlainUnit × ℕ × PlainNodes). Reaches p.0 tags (nodes ++ element place p.1 name t.attrs p.2 ∷ [])) (λ i. (whole i, stop i, row i)) closed

mutual
  unfolding list_of

  -- inside a tag, the units of a node that may stand there lead to the node
  pub node_reached : (node : PlainNode) (place : ℕ) (done : List PlainUnit) (t : OpenTag) (tags : List OpenTag) (nodes : List PlainNode) → MayStand (length (t ∷ tags)) node → (list_any is_link (map open_name (t ∷ tags)) ≡ true → may_be_in_link node ≡ true)
      → Reaches done (t ∷ tags) nodes → Reaches (done ++ units_at place (kinds_of node)) (t ∷ tags) (nodes ++ node_at place node ∷ [])
  node_reached (text_node start end bytes) place done t tags nodes m l r = reaches_more done (unit_at place (text bytes)) (t ∷ tags) nodes _ r refl (text_allowed done t.name (map open_name tags) bytes l)
  node_reached (comment_node start end bytes) place done t tags nodes m l r = reaches_more done (unit_at place (comment bytes)) (t ∷ tags) nodes _ r refl refl
  node_reached (element start end name attrs none) place done t tags nodes m l r =
      let lawful = tag_allowed done t.name (map open_name tags) name (tag_attributes place name attrs) r.tagged m.0 m.1 (no_link (list_any is_link (map open_name (t ∷ tags))) l) (is_flat (t ∷ tags) m.2) in
      subst (λ (p : ℕ). Reaches (done ++ unit_at place (empty_tag name attrs) ∷ []) (t ∷ tags) (nodes ++ element place p name (tag_attributes place name attrs) none ∷ [])) (empty_end place start end name attrs)
      (reaches_more done (unit_at place (empty_tag name attrs)) (t ∷ tags) nodes _ r refl lawful)
  node_reached (element start end name attrs (more n ns)) place done t tags nodes m l r =
      let outside = no_link (list_any is_link (map open_name (t ∷ tags))) l in
      let lawful = tag_allowed done t.name (map open_name tags) name (tag_attributes place name attrs) r.tagged m.0 m.1 outside (is_flat (t ∷ tags) m.2) in
      let opened = reaches_more done (unit_at place (start_tag name attrs)) (t ∷ tags) nodes (record { tags = open_at place name attrs nodes ∷ t ∷ tags; nodes = [] }) r refl lawful in
      element_reached place done (t ∷ tags) nodes start end name attrs n ns
      (nodes_reached (more n ns) (inside_at place name attrs) (done ++ unit_at place (start_tag name attrs) ∷ []) (open_at place name attrs nodes) (t ∷ tags) []
      (subst (λ (d : ℕ). AllMayStand d (more n ns)) (omega arith) m.4)
      (λ k. m.3 (sym (or-false (is_link name)) ∙ ap (λ (b : Bool). is_link name || b) (sym outside) ∙ k)) opened)

  -- the same for the units of nodes one after another
  pub nodes_reached : (ns : PlainNodes) (place : ℕ) (done : List PlainUnit) (t : OpenTag) (tags : List OpenTag) (nodes : List PlainNode) → AllMayStand (length (t ∷ tags)) ns → (list_any is_link (map open_name (t ∷ tags)) ≡ true → all_may_be_in_link ns ≡ true)
      → Reaches done (t ∷ tags) nodes → Reaches (done ++ units_at place (all_kinds ns)) (t ∷ tags) (nodes ++ list_of (nodes_at place ns))
  nodes_reached none place done t tags nodes m l r = rw (append-nil done, append-nil nodes) r
  nodes_reached (more n ns) place done t tags nodes m l r =
      let each = λ (k : list_any is_link (map open_name (t ∷ tags)) ≡ true). and_parts (may_be_in_link n) (all_may_be_in_link ns) (l k) in
      let first = node_reached n place done t tags nodes m.0 (λ k. (each k).0) r in
      let rest = nodes_reached ns (place + size_of n) (done ++ units_at place (kinds_of n)) t tags (nodes ++ node_at place n ∷ []) m.1 (λ k. (each k).1) first in
      let us = append_assoc done (units_at place (kinds_of n)) (units_at (place + size_of n) (all_kinds ns)) ∙ ap (λ (vs : List PlainUnit). done ++ vs) (sym (units_append place (kinds_of n) (all_kinds ns))) in
      let ms = append_assoc nodes (node_at place n ∷ []) (list_of (nodes_at (place + size_of n) ns)) in
      subst (λ (p : List PlainUnit × List PlainNode). Reaches p.0 (t ∷ tags) p.1) (λ i. (us i, ms i)) rest
