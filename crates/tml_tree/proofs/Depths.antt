-- At most 32 elements are inside each other.
use Rattle.std.proofs.Common.{◌≡◌, ℕ, Bool, true, false, cond, ◌+◌, ◌-◌, ◌≤◌, nat_le, List, [], ◌∷◌, ◌++◌, length, map, refl, sym, subst, append_assoc, arith, Some, None}
use Rattle.std.proofs.lemmas.Option.{same_Some}
use Rattle.std.specs.List.{filter}
use Rattle.std.specs.Str.{bytes_eq}
use Rattle.std.proofs.lemmas.List.{length-map}
use Rattle.std.proofs.lemmas.Bool.Decides.{nat_tests}
use Rattle.std.proofs.lemmas.Bool.{false_from_ne_true}
use Rattle.faults.specs.First.{NoneBreaks}
use Rattle.faults.specs.declared.kind.FaultKind.TheVariants as fault
use Rattle.tml_span.specs.Units.{Kind, bom, declaration, doctype, comment, text, start_tag, end_tag, empty_tag, PlainUnit}
use Rattle.tml_tree.specs.Plain.{unit, PlainNode, text_node, comment_node, element, none, nodes_of}
use Rattle.tml_tree.specs.Nesting.{OpenTag, LeavesOpen, Nests, open_name, is_seen, is_content, is_element}
use Rattle.tml_tree.specs.Rules.{history_of, is_too_deep}
use Rattle.tml_tree.specs.Stage.{Stage, step, run}
use Rattle.tml_tree.specs.Trees.{BreaksUnitRule}
use Rattle.tml_tree.specs.Places.{depth_of, deepest}
use Rattle.tml_tree.specs.Whole.{IsTreeOf}
use Rattle.tml_tree.proofs.Running.{then_some, opens_step, open_runs}

-- with the open tags about them, nodes are not too deep, nor are those before each open tag
abbrev AreShallow : List OpenTag → List PlainNode → Type 0
AreShallow [] nodes = deepest (nodes_of nodes) ≤ 32
AreShallow (t ∷ tags) nodes = (deepest (nodes_of nodes) + length (t ∷ tags) ≤ 32) × AreShallow tags t.before

here : (tags : List OpenTag) (nodes : List PlainNode) → AreShallow tags nodes → deepest (nodes_of nodes) + length tags ≤ 32
here [] nodes h = omega arith
here (t ∷ tags) nodes h = h.0

deepest_more : (nodes : List PlainNode) (n : PlainNode) (most : ℕ) → deepest (nodes_of nodes) ≤ most → depth_of n ≤ most → deepest (nodes_of (nodes ++ n ∷ [])) ≤ most
deepest_more [] n most h k = omega arith
deepest_more (m ∷ nodes) n most h k =
    let rest = deepest_more nodes n most (omega arith) k in
    omega arith

-- one node more
shallow_more : (tags : List OpenTag) (nodes : List PlainNode) (n : PlainNode) → AreShallow tags nodes → depth_of n + length tags ≤ 32 → AreShallow tags (nodes ++ n ∷ [])
shallow_more [] nodes n h k = deepest_more nodes n 32 h (omega arith)
shallow_more (t ∷ tags) nodes n h k =
    let more : deepest (nodes_of (nodes ++ n ∷ [])) ≤ 32 - length (t ∷ tags) = deepest_more nodes n (32 - length (t ∷ tags)) (omega (arith, h.0)) (omega arith) in
    (omega (arith, h.0, k), h.1)

shallow_end : (t : OpenTag) (tags : List OpenTag) (nodes : List PlainNode) (end : ℕ) (s : Stage) (b : Bool) → AreShallow (t ∷ tags) nodes
    → cond b (Some (record { tags = tags; nodes = t.before ++ element t.start end t.name t.attrs (nodes_of nodes) ∷ [] })) None ≡ Some s → AreShallow s.tags s.nodes
shallow_end t tags nodes end s false h e = absurd cc
shallow_end t tags nodes end s true h e =
    subst (λ (r : Stage). AreShallow r.tags r.nodes) (same_Some _ _ e) (shallow_more tags t.before (element t.start end t.name t.attrs (nodes_of nodes)) h.1 (omega (arith, h.0)))

not_deep : (tags : List OpenTag) → nat_le 32 (length (map open_name tags)) ≡ false → 1 + length tags ≤ 32
not_deep tags d = let same : length (map open_name tags) ≡ length tags = simp length-map in grind (arith, nat_tests, d)

-- a step keeps it, where no start or empty tag is too deep
shallow_step : (start end : ℕ) (k : Kind) (us : List PlainUnit) (tags : List OpenTag) (nodes : List PlainNode) (seen : Bool) (s : Stage) → AreShallow tags nodes → is_too_deep (history_of us (map open_name tags) seen) k ≡ false
    → step tags nodes (unit start end k) ≡ Some s → AreShallow s.tags s.nodes
shallow_step start end bom us tags nodes seen s h d e = subst (λ (r : Stage). AreShallow r.tags r.nodes) (same_Some _ _ e) h
shallow_step start end (declaration b) us tags nodes seen s h d e = subst (λ (r : Stage). AreShallow r.tags r.nodes) (same_Some _ _ e) h
shallow_step start end (doctype b) us tags nodes seen s h d e = subst (λ (r : Stage). AreShallow r.tags r.nodes) (same_Some _ _ e) h
shallow_step start end (comment b) us tags nodes seen s h d e =
    let few = here tags nodes h in
    subst (λ (r : Stage). AreShallow r.tags r.nodes) (same_Some _ _ e) (shallow_more tags nodes (comment_node start end b) h (omega arith))
shallow_step start end (text b) us tags nodes seen s h d e =
    let few = here tags nodes h in
    subst (λ (r : Stage). AreShallow r.tags r.nodes) (same_Some _ _ e) (shallow_more tags nodes (text_node start end b) h (omega arith))
shallow_step start end (start_tag name attrs) us tags nodes seen s h d e =
    subst (λ (r : Stage). AreShallow r.tags r.nodes) (same_Some _ _ e) (omega (arith, not_deep tags d), h)
shallow_step start end (empty_tag name attrs) us tags nodes seen s h d e =
    subst (λ (r : Stage). AreShallow r.tags r.nodes) (same_Some _ _ e) (shallow_more tags nodes (element start end name attrs none) h (not_deep tags d))
shallow_step start end (end_tag name) us [] nodes seen s h d e = absurd cc
shallow_step start end (end_tag name) us (t ∷ tags) nodes seen s h d e = shallow_end t tags nodes end s (bytes_eq t.name name) h e

shallow_from : (done us : List PlainUnit) (tags : List OpenTag) (nodes : List PlainNode) (s : Stage) → LeavesOpen (filter is_content done) tags nodes → AreShallow tags nodes → NoneBreaks BreaksUnitRule (done ++ us) → run tags nodes us ≡ Some s → AreShallow s.tags s.nodes
shallow_from done [] tags nodes s o h lawful e = subst (λ (r : Stage). AreShallow r.tags r.nodes) (same_Some _ _ e) h
shallow_from done (u ∷ us) tags nodes s o h lawful e =
    let one = then_some (step tags nodes u) (λ r. run r.tags r.nodes us) s e in
    let nests : Nests done (map open_name tags) (is_seen tags nodes) = (tags, nodes, o, refl, refl) in
    let flat = false_from_ne_true (is_too_deep (history_of done (map open_name tags) (is_seen tags nodes)) u.kind) (λ d. lawful done us u fault.TooDeep refl (map open_name tags, is_seen tags nodes, nests, d)) in
    let kept = shallow_step u.start u.end u.kind done tags nodes (is_seen tags nodes) one.0 h flat one.1 in
    shallow_from (done ++ u ∷ []) us one.0.tags one.0.nodes s (opens_step done u tags nodes one.0 o one.1) kept (subst (λ (vs : List PlainUnit). NoneBreaks BreaksUnitRule vs) (sym (append_assoc done (u ∷ []) us)) lawful) one.2

among : (nodes : List PlainNode) (root : PlainNode) (rest : List PlainNode) → filter is_element nodes ≡ root ∷ rest → depth_of root ≤ deepest (nodes_of nodes)
among [] root rest e = absurd cc
among (n ∷ nodes) root rest e =
    elim (is_element n) as (λ b. cond b (n ∷ filter is_element nodes) (filter is_element nodes) ≡ root ∷ rest → depth_of root ≤ deepest (nodes_of (n ∷ nodes))) [
      | true ↦ λ k. let same : n ≡ root = cc in subst (λ (m : PlainNode). depth_of m ≤ deepest (nodes_of (n ∷ nodes))) same (omega arith)
      | false ↦ λ k. let later = among nodes root rest k in omega arith
    ] e

pub depth_of_tree : (source : List ℕ) (root : PlainNode) → IsTreeOf source root → depth_of root ≤ 32
depth_of_tree source root t =
    let nodes = t.2.1.0 in
    let shallow = shallow_from [] t.0 [] [] (record { tags = []; nodes = nodes }) refl (omega arith) t.2.0.1 (open_runs t.0 [] nodes t.2.1.1) in
    let root_depth = among nodes root [] t.2.1.2 in
    omega arith
