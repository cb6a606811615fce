-- The units of a document are written one after another.
use Rattle.std.proofs.Common.{◌≡◌, ℕ, ◌≤◌, ◌<◌, Bool, true, false, cond, nat_le, List, [], ◌∷◌, ◌++◌, length, map, refl, sym, ap, subst, ◌∙◌, arith, Some, None}
use Rattle.std.specs.Prelude.{codes}
use Rattle.std.specs.Str.{bytes_eq}
use Rattle.std.proofs.lemmas.Bool.Decides.{nat_tests}
use Rattle.std.proofs.lemmas.Grind.{flat_map-append}
use Rattle.std.proofs.lemmas.List.{append-nil, length-map}
use Rattle.std.proofs.lemmas.Option.{same_Some}
use Rattle.tml_span.specs.Units.{Kind, PlainUnit, bom, declaration, doctype, comment, text, start_tag, end_tag, empty_tag}
use Rattle.tml_span.specs.Written.{unit_text}
use Rattle.tml_tree.specs.Judging.{Passes, first_fault}
use Rattle.tml_tree.specs.Nesting.{OpenTag, open_name}
use Rattle.tml_tree.specs.Plain.{PlainNode, element, none, nodes_of, unit}
use Rattle.tml_tree.specs.Rules.{History, is_unknown_tag, is_misplaced}
use Rattle.tml_tree.specs.Stage.{Stage, step}
use Rattle.tml_tree.specs.Trees.{Document}
use Rattle.tml_tree.specs.Written.{kinds_of, node_text}
use Rattle.tml_tree.proofs.FirstFaults.{first_of}
use Rattle.tml_tree.proofs.Passing.{passes_on}
use Rattle.tml_tree.proofs.Running.{nests_before, one_nesting}
use Rattle.tml_canon.specs.Canonical.{canonical, canonical_text}
use Rattle.tml_canon.specs.Writing.{HasWrittenUnits, Writes, canonical_nodes_text, text_so_far}
use Rattle.tml_canon.specs.declared.writer.Writer.{Writer}
use Rattle.tml_canon.proofs.Pushing.{nodes_text-more}

-- ---- how many tags are open

flat : (unknown unbalanced misplaced deep : Bool) → first_of unknown unbalanced misplaced deep ≡ None → deep ≡ false
flat true b m d e = absurd cc
flat false true m d e = absurd cc
flat false false true d e = absurd cc
flat false false false true e = absurd cc
flat false false false false e = refl

few_names : (names tags : ℕ) → names ≡ tags → nat_le 32 names ≡ false → tags < 32
few_names names tags e f = grind (arith, nat_tests)

-- where a start tag has no fault there is room for one more
room : (name : List ℕ) (h : History) (tags : List OpenTag) → h.names ≡ map open_name tags → first_fault h (start_tag name []) ≡ None → length tags < 32
room name h tags n f =
    let same : length (map open_name tags) ≡ length tags = simp length-map in
    few_names (length h.names) (length tags) (ap length n ∙ same) (flat (is_unknown_tag (start_tag name [])) false (is_misplaced h (start_tag name [])) (nat_le 32 (length h.names)) f)

few_closed : (t : OpenTag) (tags : List OpenTag) (nodes : List PlainNode) (end : ℕ) (s : Stage) (b : Bool) → length (t ∷ tags) ≤ 32
    → cond b (Some (record { tags = tags; nodes = t.before ++ element t.start end t.name t.attrs (nodes_of nodes) ∷ [] })) None ≡ Some s → length s.tags ≤ 32
few_closed t tags nodes end s false few e = absurd cc
few_closed t tags nodes end s true few e = subst (λ (r : Stage). length r.tags ≤ 32) (same_Some _ _ e) (omega (arith, few))

few_open : (start end : ℕ) (k : Kind) (h : History) (tags : List OpenTag) (nodes : List PlainNode) (s : Stage) → h.names ≡ map open_name tags → first_fault h k ≡ None → length tags ≤ 32 → step tags nodes (unit start end k) ≡ Some s → length s.tags ≤ 32
few_open start end bom h tags nodes s n f few e = subst (λ (r : Stage). length r.tags ≤ 32) (same_Some _ _ e) few
few_open start end (declaration b) h tags nodes s n f few e = subst (λ (r : Stage). length r.tags ≤ 32) (same_Some _ _ e) few
few_open start end (doctype b) h tags nodes s n f few e = subst (λ (r : Stage). length r.tags ≤ 32) (same_Some _ _ e) few
few_open start end (comment b) h tags nodes s n f few e = subst (λ (r : Stage). length r.tags ≤ 32) (same_Some _ _ e) few
few_open start end (text b) h tags nodes s n f few e = subst (λ (r : Stage). length r.tags ≤ 32) (same_Some _ _ e) few
few_open start end (empty_tag name attrs) h tags nodes s n f few e = subst (λ (r : Stage). length r.tags ≤ 32) (same_Some _ _ e) few
few_open start end (start_tag name attrs) h tags nodes s n f few e = subst (λ (r : Stage). length r.tags ≤ 32) (same_Some _ _ e) (omega (arith, room name h tags n f))
few_open start end (end_tag name) h [] nodes s n f few e = absurd cc
few_open start end (end_tag name) h (t ∷ tags) nodes s n f few e = few_closed t tags nodes end s (bytes_eq t.name name) few e

-- ---- one more unit

-- a unit without a fault that is written after others
pub units_more : (us : List PlainUnit) (u : PlainUnit) (old new : History) (w v : Writer) → Passes old u.kind new → HasWrittenUnits us old w → Writes w u.kind v → HasWrittenUnits (us ++ u ∷ []) new v
units_more us u old new w v passes h writes =
    let next = passes_on us u h.tags h.nodes old new h.passed passes in
    let was = nests_before us u next.0.tags next.0.nodes next.1.opens in
    let same = one_nesting us was.0.tags h.tags was.0.nodes h.nodes was.1 h.passed.opens in
    let e : step h.tags h.nodes u ≡ Some next.0 = sym (λ i. step (same.0 i) (same.1 i) u) ∙ was.2 in
    let few = few_open u.start u.end u.kind old h.tags h.nodes next.0 h.passed.names passes.0 h.few e in
    record { tags = next.0.tags; nodes = next.0.nodes; passed = next.1; few = few; written = writes h.tags h.nodes u.start u.end next.0 few e h.written }

-- ---- the end

-- the text of one element alone
alone : (root : PlainNode) → canonical_nodes_text (root ∷ []) ++ codes "\n" ≡ canonical_text root
alone root =
    let one : canonical_nodes_text (root ∷ []) ≡ node_text (canonical root) = nodes_text-more (canonical root) none ∙ append-nil (node_text (canonical root)) in
    ap (λ (s : List ℕ). s ++ codes "\n") one ∙ sym (flat_map-append unit_text (kinds_of (canonical root)) (text (codes "\n") ∷ []))

pub finished : (us : List PlainUnit) (h : History) (root : PlainNode) (w : Writer) → HasWrittenUnits us h w → Document root us → w.text.items ++ codes "\n" ≡ canonical_text root
finished us h root w all d =
    let same = one_nesting us all.tags [] all.nodes d.1.0 all.passed.opens d.1.1 in
    let text : w.text.items ≡ canonical_nodes_text (root ∷ []) = all.written.text ∙ (λ i. text_so_far (same.0 i) (same.1 i)) ∙ ap canonical_nodes_text d.1.2 in
    ap (λ (s : List ℕ). s ++ codes "\n") text ∙ alone root
