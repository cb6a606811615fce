-- What a builder knows, after one more unit and at the end.
use Rattle.std.proofs.Common.{◌≡◌, List, [], ◌∷◌, ◌++◌, map, length, refl, sym, ap, subst, ◌∙◌, arith}
use Rattle.std.specs.List.{filter}
use Rattle.std.proofs.lemmas.List.{length-map, length-reverse}
use Rattle.tml_span.specs.Units.{PlainUnit}
use Rattle.tml_tree.specs.declared.builder.Frame.{Frame}
use Rattle.tml_tree.specs.declared.builder.Builder.{Builder}
use Rattle.faults.specs.First.{NoneBreaks}
use Rattle.tml_tree.specs.Plain.{PlainNode}
use Rattle.tml_tree.specs.Nesting.{OpenTag, LeavesOpen, is_content, is_element}
use Rattle.tml_tree.specs.Judging.{HavePassed}
use Rattle.tml_tree.specs.Rules.{History}
use Rattle.tml_tree.specs.Trees.{BreaksUnitRule, Document, Unclosed}
use Rattle.tml_tree.specs.Roots.{AtMostOne, EndsIn}
use Rattle.tml_tree.specs.View as view
use Rattle.tml_tree.specs.Building as building
use Rattle.tml_tree.specs.Taking.{KnowsOpenNames, TakesUnit, HasBuilt, stage_of}
use Rattle.tml_tree.proofs.Passed.{passed_more, unclosed_open, unclosed_none, document_is}
use Rattle.tml_tree.proofs.Stacks.{names_are}

-- ---- one more unit

pub taken_more : (us : List PlainUnit) (u : PlainUnit) (b c : Builder) → HasBuilt us b → TakesUnit b u c → HasBuilt (us ++ u ∷ []) c
taken_more us u b c s t =
    subst (λ (h : History). HavePassed (us ++ u ∷ []) (building.open_tags_of c.frames.items) (map view.node_of c.nodes.items) h) (sym t.0.1)
    (passed_more us u (building.open_tags_of b.frames.items) (map view.node_of b.nodes.items) b.nesting (stage_of c) s t.0.0 t.1)

pub agrees : (us : List PlainUnit) (b : Builder) → HasBuilt us b → KnowsOpenNames b
agrees us b s = s.names ∙ sym (names_are b.frames.items)

-- ---- the builder at the end

pub nothing_left : {X : Type 0} (l : List X) → length l ≡ 0 → l ≡ []
nothing_left [] h = refl
nothing_left (x ∷ xs) h = absurd (omega arith)

ends_some : (us : List PlainUnit) (tags : List OpenTag) (nodes : List PlainNode) → LeavesOpen (filter is_content us) tags nodes → NoneBreaks BreaksUnitRule us → (length tags ≡ 0 → ⊥) → Unclosed us
ends_some us [] nodes h l e = absurd (e refl)
ends_some us (t ∷ tags) nodes h l e = unclosed_open us t tags nodes h l

tags_length : (frames : List Frame) → length (building.open_tags_of frames) ≡ length frames
tags_length frames = simp (length-map, length-reverse)

pub ends_open : (us : List PlainUnit) (b : Builder) → HasBuilt us b → (length b.frames.items ≡ 0 → ⊥) → Unclosed us
ends_open us b s e = ends_some us (building.open_tags_of b.frames.items) (map view.node_of b.nodes.items) s.opens s.lawful (λ z. e (sym (tags_length b.frames.items) ∙ z))

no_tags : (b : Builder) → length b.frames.items ≡ 0 → building.open_tags_of b.frames.items ≡ []
no_tags b e = ap (λ (fs : List Frame). building.open_tags_of fs) (nothing_left b.frames.items e)

pub ends_none : (us : List PlainUnit) (b : Builder) → HasBuilt us b → length b.frames.items ≡ 0 → filter is_element (map view.node_of b.nodes.items) ≡ [] → Unclosed us
ends_none us b s e f = unclosed_none us (map view.node_of b.nodes.items) (subst (λ (ts : List OpenTag). LeavesOpen (filter is_content us) ts (map view.node_of b.nodes.items)) (no_tags b e) s.opens) s.lawful f

pub ends_whole : (us : List PlainUnit) (b : Builder) (root : PlainNode) → HasBuilt us b → length b.frames.items ≡ 0 → EndsIn root (filter is_element (map view.node_of b.nodes.items)) → Document root us
ends_whole us b root s e f =
    document_is us root (map view.node_of b.nodes.items) (subst (λ (ts : List OpenTag). LeavesOpen (filter is_content us) ts (map view.node_of b.nodes.items)) (no_tags b e) s.opens) s.lawful
    (subst (λ (ts : List OpenTag). AtMostOne ts (map view.node_of b.nodes.items)) (no_tags b e) s.single) f
