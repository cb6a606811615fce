-- Lines are begun by their parts exactly where they begin a text.
use Rattle.std.proofs.Common.{◌≡◌, ℕ, ◌+◌, ◌-◌, ◌≤◌, ◌↔◌, inl, inr, List, [], ◌∷◌, ◌++◌, length, map, sym, refl, ap, subst, ◌∙◌, length-append, arith}
use Rattle.std.specs.Prelude.{codes}
use Rattle.std.specs.List.{All, flat_map}
use Rattle.std.proofs.lemmas.List.{map-append}
use Rattle.std.proofs.lemmas.List.Elements.{All-nil, All-from_recursion, recursion_from_All}
use Rattle.net_core.specs.Atoms.{atom_count}
use Rattle.net_core.specs.declared.step.Step.{Step}
use Rattle.net_core.specs.declared.step.Step.TheVariants.{Span}
use Rattle.evidence_format.specs.declared.head.EvidenceHead.{EvidenceHead}
use Rattle.line_texts.specs.Lines.{Lines}
use Rattle.line_texts.specs.Grammar.{Begins}
use Rattle.evidence_format.specs.Evidence.{PlainEvidence, timeline, entails, counter, clash, AreRanks, HasNumbers, AreSteps, AreCites, IsWellFormed, at_line, timeline_lines, step_line, walk_lines, cite_line, body_lines, first_line}
use Rattle.line_texts.specs.Numbers.{IsNumber, IsPair, one_number, relation_line}
use Rattle.evidence_format.specs.Parts.{IsBegunTimeline, IsBegunWalk, AreBegunWalks, AreBegunTimelines, AreBegunCites, IsBegunClash, IsBegunBody, IsBegunByParts}
use Rattle.line_texts.specs.Parts.{MayBegin}
use Rattle.evidence_format.specs.Begun.{IsBegun}
use Rattle.line_texts.proofs.Exact.{parted, then_begins, first_begins}
use Rattle.line_texts.proofs.ReaderLaws.{Has, AreMany}
use Rattle.evidence_format.proofs.BodyLaws.{exact_walk, HasSpares, HasWalkAndSpares, HasClash, rest_lines, clash_is, body_is, exact_spares, exact_walk_and_spares}
use Rattle.evidence_format.proofs.Rising.{Rise, rise_from_cites, rise_from_places, increasing, leaving, cites_from_rise, rise_prefix, rise_on}
use Rattle.evidence_format.proofs.CiteLaws.{HasCites}
use Rattle.evidence_format.proofs.FormLaws.{head_line}
use Rattle.line_texts.proofs.PartLaws.{prefix_map, prefix_cons, counted_prefix, many_prefix, count_begins, may_begin, many_begin, text_begins, text_prefix}

-- ---- the first lines of a whole text are begun by their parts

-- the first lines of a timeline
timeline_prefix : (ranks : List (ℕ × ℕ)) (xs ys : Lines) → AreRanks ranks → xs ++ ys ≡ timeline_lines ranks → MayBegin IsBegunTimeline xs
timeline_prefix ranks xs ys fit e = counted_prefix (codes "timeline ") at_line IsPair ranks xs ys fit e

-- the first lines of a walk
walk_prefix : (steps : List Step) (xs ys : Lines) → AreSteps steps → xs ++ ys ≡ walk_lines steps → MayBegin IsBegunWalk xs
walk_prefix steps xs ys fit e = counted_prefix (codes "walk ") step_line HasNumbers steps xs ys fit e

-- the first lines of this number of walks
walks_prefix : (n : ℕ) (walks : List (List Step)) (xs ys : Lines) → All AreSteps walks → length walks ≡ n → xs ++ ys ≡ flat_map walk_lines walks → AreBegunWalks n xs
walks_prefix n walks xs ys fit len e = subst (λ n. AreBegunWalks n xs) len (many_prefix AreSteps walk_lines IsBegunWalk walk_prefix walks xs ys (recursion_from_All AreSteps walks fit) e)

-- the first lines of this number of timelines
timelines_prefix : (n : ℕ) (timelines : List (List (ℕ × ℕ))) (xs ys : Lines) → All AreRanks timelines → length timelines ≡ n → xs ++ ys ≡ flat_map timeline_lines timelines → AreBegunTimelines n xs
timelines_prefix n timelines xs ys fit len e = subst (λ n. AreBegunTimelines n xs) len (many_prefix AreRanks timeline_lines IsBegunTimeline timeline_prefix timelines xs ys (recursion_from_All AreRanks timelines fit) e)

-- the first lines of cites
cites_prefix : (cites : List ℕ) (xs ys : Lines) → AreCites cites → xs ++ ys ≡ map cite_line cites → AreBegunCites (length cites) xs
cites_prefix cites xs ys h e =
    let f = prefix_map cite_line cites xs ys e in
    let first = rise_prefix (length cites) 0 f.0 f.1 (subst (Rise (length cites) 0) f.2 (rise_from_cites cites h)) in
    let few : length f.0 ≤ length cites = omega (arith, ap length f.2, length-append f.0 f.1) in
    (f.0, few, increasing (length cites) 0 f.0 first, leaving (length cites) 0 f.0 first, f.3)

-- the first lines of what stands after the line of a clash
clash_prefix : (cites : List ℕ) (walk : List Step) (spares : List (List (ℕ × ℕ))) (xs ys : Lines) → IsWellFormed (clash cites walk spares) → xs ++ ys ≡ map cite_line cites ++ (walk_lines walk ++ flat_map timeline_lines spares) → IsBegunClash (length cites) xs
clash_prefix cites walk spares xs ys h e =
    elim (parted xs ys (map cite_line cites) (walk_lines walk ++ flat_map timeline_lines spares) e) [
      | inl m ↦ inl (cites_prefix cites xs m.0 h.0 (sym m.1))
      | inr m ↦ elim (parted m.0 ys (walk_lines walk) (flat_map timeline_lines spares) (sym m.2)) [
        | inl k ↦ inr (inl (cites, m.0, h.0, refl, walk_prefix walk m.0 k.0 h.1 (sym k.1), m.1))
        | inr k ↦ inr (inr (cites, m.0, h.0, refl, (walk, k.0, h.1, timelines_prefix (length cites) spares k.0 ys h.2 h.3 (sym k.2), k.1), m.1))
      ]
    ]

-- the first lines of a body
pub body_prefix : (e : PlainEvidence) (xs ys : Lines) → IsWellFormed e → xs ++ ys ≡ body_lines e → MayBegin IsBegunBody xs
body_prefix (timeline ranks) xs ys h e = elim (timeline_prefix ranks xs ys h e) [ inl none ↦ inl none | inr begun ↦ inr (inl begun) ]
body_prefix (entails a r b walks) xs ys h e =
    elim (prefix_cons xs ys (relation_line (codes "entails ") a r b) (flat_map walk_lines walks) e) [
      | inl none ↦ inl none
      | inr m ↦ inr (inr (inl (a, r, b, m.0, h.0, h.1, walks_prefix (atom_count r) walks m.0 ys h.2 h.3 m.2, m.1)))
    ]
body_prefix (counter a r b ranks) xs ys h e =
    elim (prefix_cons xs ys (relation_line (codes "counter ") a r b) (timeline_lines ranks) e) [
      | inl none ↦ inl none
      | inr m ↦ inr (inr (inr (inl (a, r, b, m.0, h.0, h.1, timeline_prefix ranks m.0 ys h.2 m.2, m.1))))
    ]
body_prefix (clash cites walk spares) xs ys h e =
    elim (prefix_cons xs ys (one_number (codes "clash ") (length cites)) (map cite_line cites ++ (walk_lines walk ++ flat_map timeline_lines spares)) e) [
      | inl none ↦ inl none
      | inr m ↦ inr (inr (inr (inr (length cites, m.0, h.0.2, clash_prefix cites walk spares m.0 ys h m.2, m.1))))
    ]

-- ---- lines that are begun by their parts go on to a whole text

-- no intervals are a timeline
pub no_intervals : AreRanks []
no_intervals = (All-nil IsPair, omega arith)

-- a begun timeline goes on to a whole one
timeline_begins : (ls : Lines) → IsBegunTimeline ls → Begins (Has AreRanks timeline_lines) ls
timeline_begins ls t = count_begins (codes "timeline ") at_line IsPair (0, 0) (omega arith, omega arith) ls t

-- no steps are a walk
no_steps : AreSteps []
no_steps = (All-nil HasNumbers, omega arith)

-- a begun walk goes on to a whole one
walk_begins : (ls : Lines) → IsBegunWalk ls → Begins (Has AreSteps walk_lines) ls
walk_begins ls w = count_begins (codes "walk ") step_line HasNumbers (Span 0) (omega arith) ls w

-- begun walks go on to this number
walks_begin : (n : ℕ) (ls : Lines) → AreBegunWalks n ls → Begins (AreMany AreSteps walk_lines n) ls
walks_begin n ls h = many_begin AreSteps walk_lines IsBegunWalk [] no_steps walk_begins n ls h

-- begun timelines go on to this number
timelines_begin : (n : ℕ) (ls : Lines) → AreBegunTimelines n ls → Begins (AreMany AreRanks timeline_lines n) ls
timelines_begin n ls h = many_begin AreRanks timeline_lines IsBegunTimeline [] no_intervals timeline_begins n ls h

-- begun cites go on to this number
cites_begin : (n : ℕ) (ls : Lines) → IsNumber n → AreBegunCites n ls → Begins (HasCites n) ls
cites_begin n ls small h =
    let f = rise_on n 0 h.0 (omega arith) (rise_from_places n 0 h.0 h.1 h.2 h.3 (λ some. omega arith)) in
    let whole : ls ++ map cite_line f.0 ≡ map cite_line (h.0 ++ f.0) = ap (λ (x : Lines). x ++ map cite_line f.0) h.4 ∙ sym (map-append cite_line h.0 f.0) in
    (h.0 ++ f.0, map cite_line f.0, (cites_from_rise n (h.0 ++ f.0) small f.2 f.1, f.2, whole))

-- a begun clash goes on to a whole one
clash_begins : (n : ℕ) (ls : Lines) → IsNumber n → IsBegunClash n ls → Begins (HasClash n) ls
clash_begins n ls small (inl begun) = let c = cites_begin n ls small begun in first_begins (HasCites n) (HasWalkAndSpares n) ls c (exact_walk_and_spares n c.0).alive
clash_begins n ls small (inr (inl h)) =
    let w = may_begin (Has AreSteps walk_lines) IsBegunWalk exact_walk.alive walk_begins h.1 h.4 in
    let proof = first_begins (Has AreSteps walk_lines) (HasSpares n h.0) h.1 w (exact_spares n h.0 w.0).alive in
    subst (Begins (HasClash n)) (sym h.5) (then_begins (HasCites n) (HasWalkAndSpares n) h.0 (map cite_line h.0) h.1 (h.2, h.3, refl) proof)
clash_begins n ls small (inr (inr h)) =
    let w = h.4 in
    let s = timelines_begin n w.1 w.3 in
    let spares : Begins (HasSpares n h.0 w.0) w.1 = (clash h.0 w.0 s.0, s.1, (s.0, s.2, refl)) in
    let proof = subst (Begins (HasWalkAndSpares n h.0)) (sym w.4) (then_begins (Has AreSteps walk_lines) (HasSpares n h.0) w.0 (walk_lines w.0) w.1 (w.2, refl) spares) in
    subst (Begins (HasClash n)) (sym h.5) (then_begins (HasCites n) (HasWalkAndSpares n) h.0 (map cite_line h.0) h.1 (h.2, h.3, refl) proof)

-- a begun body goes on to a whole one
pub body_begins : (ls : Lines) → IsBegunBody ls → Begins (Has IsWellFormed body_lines) ls
body_begins ls (inl h) =
    let t = timeline_begins ls h in
    (timeline t.0, t.1, (t.2.0, t.2.1))
body_begins ls (inr (inl h)) =
    let w = walks_begin (atom_count h.1) h.3 h.6 in
    let whole = ap (λ (x : Lines). x ++ w.1) h.7 ∙ ap (λ (x : Lines). relation_line (codes "entails ") h.0 h.1 h.2 ∷ x) w.2.2 in
    (entails h.0 h.1 h.2 w.0, w.1, ((h.4, h.5, All-from_recursion AreSteps w.0 w.2.0, w.2.1), whole))
body_begins ls (inr (inr (inl h))) =
    let t = may_begin (Has AreRanks timeline_lines) IsBegunTimeline ([], timeline_lines [], (no_intervals, refl)) timeline_begins h.3 h.6 in
    let whole = ap (λ (x : Lines). x ++ t.1) h.7 ∙ ap (λ (x : Lines). relation_line (codes "counter ") h.0 h.1 h.2 ∷ x) t.2.1 in
    (counter h.0 h.1 h.2 t.0, t.1, ((h.4, h.5, t.2.0), whole))
body_begins ls (inr (inr (inr h))) =
    let c = clash_begins h.0 h.1 h.2 h.3 in
    let r = clash_is h.0 c.0 (h.1 ++ c.1) c.2 in
    let whole = ap (λ (x : Lines). x ++ c.1) h.4 ∙ ap (λ (x : Lines). one_number (codes "clash ") h.0 ∷ x) r.2 ∙ ap (λ (k : EvidenceHead). head_line k ∷ rest_lines c.0) (sym r.1) ∙ sym (body_is c.0) in
    (c.0, c.1, (r.0, whole))

-- both definitions of begun lines are one
pub same_begun : (ls : Lines) → IsBegunByParts ls ↔ IsBegun ls
same_begun ls = (text_begins IsWellFormed first_line body_lines IsBegunBody (timeline []) no_intervals body_begins ls, text_prefix IsWellFormed first_line body_lines IsBegunBody body_prefix ls)
