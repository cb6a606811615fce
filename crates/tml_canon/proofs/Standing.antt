-- The nodes of the tree of a source may stand where they do, and so may those of its canonical tree.
use Rattle.std.proofs.Common.{◌≡◌, ℕ, ◌+◌, ◌<◌, Bool, true, false, cond, not, ◌&&◌, ◌||◌, nat_le, List, [], ◌∷◌, ◌++◌, length, map, refl, sym, ap, subst, ◌∙◌, append_assoc, arith, Some, None}
use Rattle.std.specs.Prelude.{codes, ⊤}
use Rattle.std.specs.List.{filter, list_any, list_all}
use Rattle.std.specs.Str.{bytes_eq}
use Rattle.std.proofs.lemmas.Bool.{not-false, or_parts, and_from, both_ways, and_parts}
use Rattle.std.proofs.lemmas.Bool.Decides.{nat_tests}
use Rattle.std.proofs.lemmas.List.{length-map}
use Rattle.std.proofs.lemmas.Option.{same_Some}
use Rattle.std.proofs.lemmas.Slice.Eq.{bytes_eq-Decides}
use Rattle.faults.specs.First.{NoneBreaks}
use Rattle.faults.specs.declared.kind.FaultKind.TheVariants as fault
use Rattle.tml_span.specs.Bytes.{is_white}
use Rattle.tml_span.specs.Units.{Attribute, Kind, bom, declaration, doctype, comment, text, start_tag, end_tag, empty_tag, PlainUnit}
use Rattle.tml_tree.specs.Plain.{unit, PlainNode, PlainNodes, text_node, comment_node, element, none, more, nodes_of}
use Rattle.tml_tree.specs.Nesting.{OpenTag, LeavesOpen, open_name, is_seen, is_content, is_element}
use Rattle.tml_tree.specs.Rules.{history_of, is_tag, is_unknown_tag, is_misplaced, is_misplaced_tag, is_too_deep}
use Rattle.tml_tree.specs.Stage.{Stage, step, run}
use Rattle.tml_tree.specs.TagNames.{is_known, is_link, is_root}
use Rattle.tml_tree.specs.Trees.{BreaksUnitRule}
use Rattle.tml_tree.specs.Whole.{IsTreeOf}
use Rattle.tml_tree.specs.Written.{may_be_in_link, all_may_be_in_link, MayStand, AllMayStand, MayBeRoot}
use Rattle.tml_tree.proofs.Allowed.{not_at_fault, tagged_is_seen}
use Rattle.tml_tree.proofs.Running.{then_some, opens_step, open_runs}
use Rattle.tml_canon.specs.Canonical.{canonical, canonical_nodes}

-- ---- where tags and nodes may be

-- a tag of this name may be open, or an element of it stand, inside these open tags
abbrev pub MayBeOpen : List OpenTag → List ℕ → Type 0
MayBeOpen [] name = name ≡ codes "TimeML"
MayBeOpen (t ∷ tags) name = (is_known name ≡ true) × (is_root name ≡ false) × (length (t ∷ tags) < 32) × (is_link t.name ≡ false)

-- a node may stand inside these open tags; outside all tags an element may be the root
abbrev pub MayFollow : List OpenTag → PlainNode → Type 0
MayFollow [] node = is_element node ≡ true → MayBeRoot node
MayFollow (t ∷ tags) node = MayStand (length (t ∷ tags)) node × (is_link t.name ≡ true → may_be_in_link node ≡ true)

-- each element among these nodes may be the root
abbrev pub OnlyRoots : List PlainNode → Type 0
OnlyRoots [] = ⊤
OnlyRoots (node ∷ nodes) = (is_element node ≡ true → MayBeRoot node) × OnlyRoots nodes

-- nodes may stand inside these open tags, and so may these tags and the nodes before each
abbrev pub Stand : List OpenTag → List PlainNode → Type 0
Stand [] nodes = OnlyRoots nodes
Stand (t ∷ tags) nodes = AllMayStand (length (t ∷ tags)) (nodes_of nodes) × (is_link t.name ≡ true → all_may_be_in_link (nodes_of nodes) ≡ true) × MayBeOpen tags t.name × Stand tags t.before

-- ---- one more node

-- one more element outside all tags
roots_more : (nodes : List PlainNode) (node : PlainNode) → OnlyRoots nodes → MayFollow [] node → OnlyRoots (nodes ++ node ∷ [])
roots_more [] node h f = (f, tt)
roots_more (n ∷ nodes) node h f = (h.0, roots_more nodes node h.1 f)

-- one more node that may stand at this depth
all_stand_more : (depth : ℕ) (nodes : List PlainNode) (node : PlainNode) → AllMayStand depth (nodes_of nodes) → MayStand depth node → AllMayStand depth (nodes_of (nodes ++ node ∷ []))
all_stand_more depth [] node h f = (f, tt)
all_stand_more depth (n ∷ nodes) node h f = (h.0, all_stand_more depth nodes node h.1 f)

-- one more node that may be in a link tag
in_link_more : (nodes : List PlainNode) (node : PlainNode) → all_may_be_in_link (nodes_of nodes) ≡ true → may_be_in_link node ≡ true → all_may_be_in_link (nodes_of (nodes ++ node ∷ [])) ≡ true
in_link_more [] node h f = ap (λ (b : Bool). b && true) f
in_link_more (n ∷ nodes) node h f =
    let parts = and_parts (may_be_in_link n) (all_may_be_in_link (nodes_of nodes)) h in
    and_from (may_be_in_link n) (all_may_be_in_link (nodes_of (nodes ++ node ∷ []))) parts.0 (in_link_more nodes node parts.1 f)

-- one more node that may stand there
stand_more : (tags : List OpenTag) (nodes : List PlainNode) (node : PlainNode) → Stand tags nodes → MayFollow tags node → Stand tags (nodes ++ node ∷ [])
stand_more [] nodes node h f = roots_more nodes node h f
stand_more (t ∷ tags) nodes node h f = (all_stand_more (length (t ∷ tags)) nodes node h.0 f.0, λ link. in_link_more nodes node (h.1 link) (f.1 link), h.2, h.3)

-- an element may stand where a tag of its name may be open, if what is in it may stand there
element_follows : (tags : List OpenTag) (start end : ℕ) (name : List ℕ) (attrs : List Attribute) (children : PlainNodes) → MayBeOpen tags name → (is_link name ≡ true → all_may_be_in_link children ≡ true)
    → AllMayStand (length tags + 1) children → MayFollow tags (element start end name attrs children)
element_follows [] start end name attrs children o l h = λ e. (o, h)
element_follows (t ∷ tags) start end name attrs children o l h = ((o.0, o.1, o.2, l, h), λ link. absurd (both_ways (is_link t.name) o.3 link))

-- ---- rules

-- the first tag is that of a root
root_rule : (tagged root : Bool) → (not tagged && not root || tagged || false) ≡ false → root ≡ true
root_rule true root h = absurd cc
root_rule false true h = refl
root_rule false false h = absurd cc

-- a tag that is in no way at fault may be open there
tag_is_open : (us : List PlainUnit) (tags : List OpenTag) (nodes : List PlainNode) (name : List ℕ) (attrs : List Attribute) → LeavesOpen (filter is_content us) tags nodes
    → not (is_known name) ≡ false → is_misplaced_tag (history_of us (map open_name tags) (is_seen tags nodes)) name ≡ false → nat_le 32 (length (map open_name tags)) ≡ false → MayBeOpen tags name
tag_is_open us [] nodes name attrs o k m d =
    let same = tagged_is_seen us nodes o in
    let root = root_rule (list_any is_tag us) (is_root name) (ap (λ (b : Bool). not (list_any is_tag us) && not (is_root name) || b || false) same ∙ m) in
    sym ((bytes_eq-Decides (codes "TimeML") name).0 root)
tag_is_open us (t ∷ tags) nodes name attrs o k m d =
    let first = not (list_any is_tag us) && not (is_root name) in
    let links = list_any is_link (map open_name (t ∷ tags)) in
    let root = or_parts (links || first || false) (is_root name) m in
    let link = or_parts links first (or_parts (links || first) false root.0).0 in
    let same : length (map open_name (t ∷ tags)) ≡ length (t ∷ tags) = simp length-map in
    let few : length (t ∷ tags) < 32 = grind (arith, nat_tests, d, same) in
    (not-false (is_known name) k, root.1, few, (or_parts (is_link t.name) (list_any is_link (map open_name tags)) link.0).0)

-- in a link tag a text that is in no way at fault is white space
text_rule : (white link others : Bool) → (not white && (link || others)) ≡ false → link ≡ true → white ≡ true
text_rule true link others h l = refl
text_rule false true others h l = absurd cc
text_rule false false others h l = absurd cc

-- a text that is in no way at fault may stand there
text_follows : (us : List PlainUnit) (tags : List OpenTag) (nodes : List PlainNode) (start end : ℕ) (bytes : List ℕ) → is_misplaced (history_of us (map open_name tags) (is_seen tags nodes)) (text bytes) ≡ false → MayFollow tags (text_node start end bytes)
text_follows us [] nodes start end bytes m = λ e. absurd cc
text_follows us (t ∷ tags) nodes start end bytes m = (tt, text_rule (list_all is_white bytes) (is_link t.name) (list_any is_link (map open_name tags)) m)

-- a comment may stand anywhere
comment_follows : (tags : List OpenTag) (start end : ℕ) (bytes : List ℕ) → MayFollow tags (comment_node start end bytes)
comment_follows [] start end bytes = λ e. absurd cc
comment_follows (t ∷ tags) start end bytes = (tt, λ link. refl)

-- ---- one more unit

-- an end tag keeps it so: the element that it makes may stand where its start tag was open
stand_end : (t : OpenTag) (tags : List OpenTag) (nodes : List PlainNode) (end : ℕ) (s : Stage) (b : Bool) → Stand (t ∷ tags) nodes
    → cond b (Some (record { tags = tags; nodes = t.before ++ element t.start end t.name t.attrs (nodes_of nodes) ∷ [] })) None ≡ Some s → Stand s.tags s.nodes
stand_end t tags nodes end s false h e = absurd cc
stand_end t tags nodes end s true h e =
    let inside = subst (λ (depth : ℕ). AllMayStand depth (nodes_of nodes)) (omega arith) h.0 in
    subst (λ (r : Stage). Stand r.tags r.nodes) (same_Some _ _ e) (stand_more tags t.before (element t.start end t.name t.attrs (nodes_of nodes)) h.3 (element_follows tags t.start end t.name t.attrs (nodes_of nodes) h.2 h.1 inside))

-- a unit that is in no way at fault keeps it so
stand_step : (start end : ℕ) (k : Kind) (us : List PlainUnit) (tags : List OpenTag) (nodes : List PlainNode) (s : Stage) → LeavesOpen (filter is_content us) tags nodes → Stand tags nodes → is_unknown_tag k ≡ false
    → is_misplaced (history_of us (map open_name tags) (is_seen tags nodes)) k ≡ false → is_too_deep (history_of us (map open_name tags) (is_seen tags nodes)) k ≡ false → step tags nodes (unit start end k) ≡ Some s → Stand s.tags s.nodes
stand_step start end bom us tags nodes s o h k m d e = subst (λ (r : Stage). Stand r.tags r.nodes) (same_Some _ _ e) h
stand_step start end (declaration b) us tags nodes s o h k m d e = subst (λ (r : Stage). Stand r.tags r.nodes) (same_Some _ _ e) h
stand_step start end (doctype b) us tags nodes s o h k m d e = subst (λ (r : Stage). Stand r.tags r.nodes) (same_Some _ _ e) h
stand_step start end (comment b) us tags nodes s o h k m d e = subst (λ (r : Stage). Stand r.tags r.nodes) (same_Some _ _ e) (stand_more tags nodes (comment_node start end b) h (comment_follows tags start end b))
stand_step start end (text b) us tags nodes s o h k m d e = subst (λ (r : Stage). Stand r.tags r.nodes) (same_Some _ _ e) (stand_more tags nodes (text_node start end b) h (text_follows us tags nodes start end b m))
stand_step start end (start_tag name attrs) us tags nodes s o h k m d e =
    subst (λ (r : Stage). Stand r.tags r.nodes) (same_Some _ _ e) (tt, λ link. refl, tag_is_open us tags nodes name attrs o k m d, h)
stand_step start end (empty_tag name attrs) us tags nodes s o h k m d e =
    subst (λ (r : Stage). Stand r.tags r.nodes) (same_Some _ _ e) (stand_more tags nodes (element start end name attrs none) h (element_follows tags start end name attrs none (tag_is_open us tags nodes name attrs o k m d) (λ link. refl) tt))
stand_step start end (end_tag name) us [] nodes s o h k m d e = absurd cc
stand_step start end (end_tag name) us (t ∷ tags) nodes s o h k m d e = stand_end t tags nodes end s (bytes_eq t.name name) h e

-- what units that break no rule lead to may stand there
stand_from : (done us : List PlainUnit) (tags : List OpenTag) (nodes : List PlainNode) (s : Stage) → LeavesOpen (filter is_content done) tags nodes → Stand tags nodes → NoneBreaks BreaksUnitRule (done ++ us) → run tags nodes us ≡ Some s → Stand s.tags s.nodes
stand_from done [] tags nodes s o h lawful e = subst (λ (r : Stage). Stand r.tags r.nodes) (same_Some _ _ e) h
stand_from done (u ∷ us) tags nodes s o h lawful e =
    let one = then_some (step tags nodes u) (λ r. run r.tags r.nodes us) s e in
    let kept = stand_step u.start u.end u.kind done tags nodes one.0 o h (not_at_fault done us u tags nodes o lawful fault.UnknownTag) (not_at_fault done us u tags nodes o lawful fault.Misplaced) (not_at_fault done us u tags nodes o lawful fault.TooDeep) one.1 in
    stand_from (done ++ u ∷ []) us one.0.tags one.0.nodes s (opens_step done u tags nodes one.0 o one.1) kept (subst (λ (vs : List PlainUnit). NoneBreaks BreaksUnitRule vs) (sym (append_assoc done (u ∷ []) us)) lawful) one.2

-- ---- the root

-- an element among nodes each of which may be the root
root_among : (nodes : List PlainNode) (root : PlainNode) (rest : List PlainNode) → filter is_element nodes ≡ root ∷ rest → OnlyRoots nodes → MayBeRoot root
root_among [] root rest e h = absurd cc
root_among (n ∷ nodes) root rest e h =
    elim (is_element n) as (λ b. is_element n ≡ b → cond b (n ∷ filter is_element nodes) (filter is_element nodes) ≡ root ∷ rest → MayBeRoot root) [
      | true ↦ λ is k. let same : n ≡ root = cc in subst (λ (m : PlainNode). MayBeRoot m) same (h.0 is)
      | false ↦ λ is k. root_among nodes root rest k h.1
    ] refl e

-- the tree of a source has a root, and its nodes stand where they may
pub stands : (source : List ℕ) (root : PlainNode) → IsTreeOf source root → MayBeRoot root
stands source root t =
    let nodes = t.2.1.0 in
    root_among nodes root [] t.2.1.2 (stand_from [] t.0 [] [] (record { tags = []; nodes = nodes }) refl tt t.2.0.1 (open_runs t.0 [] nodes t.2.1.1))

-- ---- the canonical tree

-- what may be in a link tag may be there in its canonical form
canonical_in_link : (node : PlainNode) → may_be_in_link (canonical node) ≡ may_be_in_link node
canonical_in_link (text_node start end bytes) = refl
canonical_in_link (comment_node start end bytes) = refl
canonical_in_link (element start end name attrs children) = refl

-- the same of nodes one after another
canonical_all_in_link : (nodes : PlainNodes) → all_may_be_in_link (canonical_nodes nodes) ≡ all_may_be_in_link nodes
canonical_all_in_link none = refl
canonical_all_in_link (more n ns) = λ i. canonical_in_link n i && canonical_all_in_link ns i

mutual
  -- what may stand somewhere may stand there in its canonical form
  canonical_may_stand : (depth : ℕ) (node : PlainNode) → MayStand depth node → MayStand depth (canonical node)
  canonical_may_stand depth (text_node start end bytes) h = tt
  canonical_may_stand depth (comment_node start end bytes) h = tt
  canonical_may_stand depth (element start end name attrs children) h = (h.0, h.1, h.2, λ link. canonical_all_in_link children ∙ h.3 link, all_canonical_may_stand (depth + 1) children h.4)

  -- the same of nodes one after another
  all_canonical_may_stand : (depth : ℕ) (nodes : PlainNodes) → AllMayStand depth nodes → AllMayStand depth (canonical_nodes nodes)
  all_canonical_may_stand depth none h = tt
  all_canonical_may_stand depth (more n ns) h = (canonical_may_stand depth n h.0, all_canonical_may_stand depth ns h.1)

-- a node that may be the root may be it in its canonical form
canonical_root : (root : PlainNode) → MayBeRoot root → MayBeRoot (canonical root)
canonical_root (text_node start end bytes) h = h
canonical_root (comment_node start end bytes) h = h
canonical_root (element start end name attrs children) h = (h.0, all_canonical_may_stand 1 children h.1)

-- the canonical form of the tree of a source has a root, and its nodes stand where they may
pub canonical_stands : (source : List ℕ) (root : PlainNode) → IsTreeOf source root → MayBeRoot (canonical root)
canonical_stands source root t = canonical_root root (stands source root t)
