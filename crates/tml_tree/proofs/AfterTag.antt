-- In the items of a source that follow its first tag two texts never follow each other, and each unit there is part of an item.
use Rattle.std.proofs.Common.{◌≡◌, ◌⊎◌, inl, inr, ℕ, ◌+◌, ◌<◌, true, false, cond, List, [], ◌∷◌, ◌++◌, length, map, refl, sym, ap, subst, ◌∙◌, append_assoc, arith, Some}
use Rattle.std.specs.List.{filter, list_any}
use Rattle.std.proofs.lemmas.Bool.{both_ways, or_cases, or_left, or_parts, or_right, cond-true}
use Rattle.std.proofs.lemmas.List.Folds.{list_any-append}
use Rattle.faults.specs.First.{NoneBreaks}
use Rattle.faults.specs.declared.kind.FaultKind.TheVariants as fault
use Rattle.tml_span.specs.Cutting.{CutsFrom}
use Rattle.tml_span.specs.Units.{Kind, bom, declaration, doctype, start_tag, end_tag, empty_tag, PlainUnit, SpelledKind}
use Rattle.tml_span.specs.Written.{NoTextsMeet}
use Rattle.tml_span.proofs.EveryCut.{spelling_some}
use Rattle.tml_span.proofs.TextsApart.{cut_apart, kind_of}
use Rattle.tml_tree.specs.Plain.{unit, PlainNode}
use Rattle.tml_tree.specs.Nesting.{OpenTag, LeavesOpen, is_content}
use Rattle.tml_tree.specs.Rules.{is_past_bom, is_tag, is_doctype}
use Rattle.tml_tree.specs.Stage.{Stage, step, run}
use Rattle.tml_tree.specs.Trees.{BreaksUnitRule}
use Rattle.tml_tree.proofs.Allowed.{not_at_fault}
use Rattle.tml_tree.proofs.Running.{then_some, opens_step}

-- the units after the first tag
abbrev pub after_tag : List PlainUnit → List PlainUnit
after_tag [] = []
after_tag (u ∷ us) = cond (is_tag u) us (after_tag us)

-- a tag is among units where it is among the first or the last of them
tagged_more : (us vs : List PlainUnit) → (list_any is_tag us ≡ true) ⊎ (list_any is_tag vs ≡ true) → list_any is_tag (us ++ vs) ≡ true
tagged_more us vs (inl h) = list_any-append is_tag us vs ∙ or_left (list_any is_tag us) (list_any is_tag vs) h
tagged_more us vs (inr h) = list_any-append is_tag us vs ∙ or_right (list_any is_tag us) (list_any is_tag vs) h

-- a tag is no Bom
tag_past_bom : (start end : ℕ) (k : Kind) → is_tag (unit start end k) ≡ true → is_past_bom (unit start end k) ≡ true
tag_past_bom start end bom h = absurd cc
tag_past_bom start end k h = refl

-- where a tag is among units, one but a Bom is
tag_begun : (us : List PlainUnit) → list_any is_tag us ≡ true → list_any is_past_bom us ≡ true
tag_begun [] h = h
tag_begun (u ∷ us) h = elim (or_cases (is_tag u) (list_any is_tag us) h) [
  | inl here ↦ or_left (is_past_bom u) (list_any is_past_bom us) (tag_past_bom u.start u.end u.kind here)
  | inr later ↦ or_right (is_past_bom u) (list_any is_past_bom us) (tag_begun us later)
]

-- a unit after a tag is no Bom, no declaration and no doctype
kind_is_content : (start end : ℕ) (k : Kind) (place : ℕ) (prefix : List ℕ) (done us : List PlainUnit) (tags : List OpenTag) (nodes : List PlainNode) → 0 < place → list_any is_tag done ≡ true
    → LeavesOpen (filter is_content done) tags nodes → NoneBreaks BreaksUnitRule (done ++ unit start end k ∷ us) → SpelledKind place k prefix → is_content (unit start end k) ≡ true
kind_is_content start end bom place prefix done us tags nodes some t o lawful h = absurd (omega (arith, h.0))
kind_is_content start end (declaration b) place prefix done us tags nodes some t o lawful h =
    absurd (both_ways (list_any is_past_bom done) (not_at_fault done us (unit start end (declaration b)) tags nodes o lawful fault.Misplaced) (tag_begun done t))
kind_is_content start end (doctype b) place prefix done us tags nodes some t o lawful h =
    let none = or_parts (list_any is_tag done) (list_any is_doctype done) (not_at_fault done us (unit start end (doctype b)) tags nodes o lawful fault.Misplaced) in
    absurd (both_ways (list_any is_tag done) none.0 t)
kind_is_content start end k place prefix done us tags nodes some t o lawful h = refl

-- after a tag each unit is part of an item
content_from : (done us : List PlainUnit) (place : ℕ) (bytes : List ℕ) (tags : List OpenTag) (nodes : List PlainNode) (s : Stage) → 0 < place → list_any is_tag done ≡ true → LeavesOpen (filter is_content done) tags nodes
    → run tags nodes us ≡ Some s → NoneBreaks BreaksUnitRule (done ++ us) → CutsFrom place bytes us [] → filter is_content us ≡ us
content_from done [] place bytes tags nodes s some t o e lawful c = refl
content_from done (u ∷ us) place bytes tags nodes s some t o e lawful c =
    let one = then_some (step tags nodes u) (λ r. run r.tags r.nodes us) s e in
    let here = kind_is_content u.start u.end u.kind place c.0 done us tags nodes some t o lawful c.3.kind in
    let rest = content_from (done ++ u ∷ []) us (place + length c.0) c.1 one.0.tags one.0.nodes s (omega arith) (tagged_more done (u ∷ []) (inl t)) (opens_step done u tags nodes one.0 o one.1) one.2
    (subst (λ (vs : List PlainUnit). NoneBreaks BreaksUnitRule vs) (sym (append_assoc done (u ∷ []) us)) lawful) c.5 in
    cond-true (is_content u) (u ∷ filter is_content us) (filter is_content us) here ∙ ap (λ (vs : List PlainUnit). u ∷ vs) rest

-- one unit more: where it is a tag, what is after the first tag is what follows it
after_kind : (start end : ℕ) (k : Kind) (us : List PlainUnit) → (is_tag (unit start end k) ≡ true → NoTextsMeet (map kind_of (filter is_content us))) → NoTextsMeet (map kind_of (after_tag (filter is_content us)))
    → NoTextsMeet (map kind_of (after_tag (filter is_content (unit start end k ∷ us))))
after_kind start end (start_tag name attrs) us f h = f refl
after_kind start end (end_tag name) us f h = f refl
after_kind start end (empty_tag name attrs) us f h = f refl
after_kind start end k us f h = h

-- after the first tag of the items no two texts meet
pub apart_after_tag : (done us : List PlainUnit) (place : ℕ) (bytes : List ℕ) (tags : List OpenTag) (nodes : List PlainNode) (s : Stage) → LeavesOpen (filter is_content done) tags nodes → run tags nodes us ≡ Some s
    → NoneBreaks BreaksUnitRule (done ++ us) → CutsFrom place bytes us [] → NoTextsMeet (map kind_of (after_tag (filter is_content us)))
apart_after_tag done [] place bytes tags nodes s o e lawful c = tt
apart_after_tag done (u ∷ us) place bytes tags nodes s o e lawful c =
    let one = then_some (step tags nodes u) (λ r. run r.tags r.nodes us) s e in
    let next = opens_step done u tags nodes one.0 o one.1 in
    let others = subst (λ (vs : List PlainUnit). NoneBreaks BreaksUnitRule vs) (sym (append_assoc done (u ∷ []) us)) lawful in
    let later = place + length c.0 in
    let some : 0 < later = omega (arith, spelling_some place u c.0 c.3) in
    let tagged = λ (t : is_tag u ≡ true). tagged_more done (u ∷ []) (inr (or_left (is_tag u) false t)) in
    after_kind u.start u.end u.kind us
    (λ t. subst (λ (vs : List PlainUnit). NoTextsMeet (map kind_of vs)) (sym (content_from (done ++ u ∷ []) us later c.1 one.0.tags one.0.nodes s some (tagged t) next one.2 others c.5)) (cut_apart later c.1 us c.5))
    (apart_after_tag (done ++ u ∷ []) us later c.1 one.0.tags one.0.nodes s next one.2 others c.5)
