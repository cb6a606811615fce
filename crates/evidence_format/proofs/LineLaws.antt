-- Each line of evidence is one.
use Rattle.std.proofs.Common.{ℕ, ◌+◌, ◌-◌, List, [], ◌∷◌, ◌++◌, length, map, inl, inr, refl, sym, subst}
use Rattle.std.specs.Prelude.{codes}
use Rattle.std.specs.List.{flat_map, AllByRecursion}
use Rattle.std.proofs.lemmas.List.Elements.{recursion_from_All}
use Rattle.named.proofs.Lists.{each_joined}
use Rattle.net_core.specs.declared.step.Step.{Step}
use Rattle.net_core.specs.declared.step.Step.TheVariants.{Link, Span, Calendar}
use Rattle.line_texts.specs.Lines.{Lines, last_line}
use Rattle.evidence_format.specs.Evidence.{PlainEvidence, timeline, entails, counter, clash, AreRanks, HasNumbers, AreSteps, IsWellFormed, at_line, timeline_lines, step_line, walk_lines, cite_line, body_lines, text_lines}
use Rattle.line_texts.specs.Numbers.{IsNumber, IsPair}
use Rattle.evidence_format.proofs.BundleLaws.{HasEither}
use Rattle.line_texts.proofs.LineLaws.{IsLine, one_is, two_is, relation_is, mapped_are, flat_are}

-- a step is a whole line
step_is : (s : Step) → HasNumbers s → IsLine (step_line s)
step_is (Link k t) h = two_is (codes "via ") k t refl h.0 h.1
step_is (Span i) h = one_is (codes "span ") i refl h
step_is (Calendar p q) h = two_is (codes "calendar ") p q refl h.0 h.1

-- a timeline is whole lines
timeline_is : (ranks : List (ℕ × ℕ)) → AreRanks ranks → AllByRecursion IsLine (timeline_lines ranks)
timeline_is ranks h = (one_is (codes "timeline ") (length ranks) refl h.1, mapped_are IsPair at_line (λ pair small. two_is (codes "at ") pair.0 pair.1 refl small.0 small.1) ranks (recursion_from_All IsPair ranks h.0))

-- a walk is whole lines
walk_is : (steps : List Step) → AreSteps steps → AllByRecursion IsLine (walk_lines steps)
walk_is steps h = (one_is (codes "walk ") (length steps) refl h.1, mapped_are HasNumbers step_line step_is steps (recursion_from_All HasNumbers steps h.0))

-- what stands between the first line and the last one is whole lines
body_is : (e : PlainEvidence) → IsWellFormed e → AllByRecursion IsLine (body_lines e)
body_is (timeline ranks) h = timeline_is ranks h
body_is (entails a r b walks) h = (relation_is (codes "entails ") a r b refl h.0 h.1, flat_are AreSteps walk_lines walk_is walks (recursion_from_All AreSteps walks h.2))
body_is (counter a r b ranks) h = (relation_is (codes "counter ") a r b refl h.0 h.1, timeline_is ranks h.2)
body_is (clash cites walk spares) h =
    let each : AllByRecursion IsLine (map cite_line cites) = mapped_are IsNumber cite_line (λ link small. one_is (codes "cite ") link refl small) cites (recursion_from_All IsNumber cites h.0.1) in
    let timelines : AllByRecursion IsLine (flat_map timeline_lines spares) = flat_are AreRanks timeline_lines timeline_is spares (recursion_from_All AreRanks spares h.2) in
    (one_is (codes "clash ") (length cites) refl h.0.2, each_joined IsLine (map cite_line cites) (walk_lines walk ++ flat_map timeline_lines spares) each (each_joined IsLine (walk_lines walk) (flat_map timeline_lines spares) (walk_is walk h.1) timelines))

-- the lines of a text are whole
pub text_is : (e : PlainEvidence) → IsWellFormed e → AllByRecursion IsLine (text_lines e)
text_is e h = ((codes "tml-evidence 1", refl, refl), each_joined IsLine (body_lines e) (last_line ∷ []) (body_is e h) ((codes "end", refl, refl), tt))

-- the lines of one of the versions are whole
pub either_is : (es : List PlainEvidence) (ls : Lines) → HasEither es ls → AllByRecursion IsLine ls
either_is es ls (inl h) =
    let bodies = flat_are IsWellFormed body_lines body_is es (recursion_from_All IsWellFormed es h.0.0) in
    subst (AllByRecursion IsLine) (sym h.1) ((codes "tml-evidence 2", refl, refl), (one_is (codes "claims ") (length es) refl h.0.1.1, each_joined IsLine (flat_map body_lines es) (last_line ∷ []) bodies ((codes "end", refl, refl), tt)))
either_is es ls (inr h) = subst (AllByRecursion IsLine) (sym h.2.1) (text_is h.0 h.2.0)
