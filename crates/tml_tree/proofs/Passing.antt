-- Units that are judged one after another: what a unit without a fault makes, what one with a fault says, and the end.
use Rattle.std.proofs.Common.{◌≡◌, inl, inr, ℕ, Bool, true, false, cond, not, ◌&&◌, List, [], ◌∷◌, ◌++◌, map, refl, sym, ap, subst, ◌∙◌, Option, Some, None, IfSome}
use Rattle.std.specs.List.{filter}
use Rattle.std.specs.Str.{bytes_eq}
use Rattle.faults.specs.First.{NoneBreaks}
use Rattle.faults.specs.declared.kind.FaultKind.{FaultKind}
use Rattle.tml_span.specs.Units.{Kind, bom, declaration, doctype, comment, text, start_tag, end_tag, empty_tag, PlainUnit}
use Rattle.tml_tree.specs.Plain.{unit, PlainNode}
use Rattle.tml_tree.specs.Nesting.{OpenTag, LeavesOpen, open_name, is_seen, is_content}
use Rattle.tml_tree.specs.Roots.{AtMostOne}
use Rattle.tml_tree.specs.Rules.{History, is_innermost, is_nil}
use Rattle.tml_tree.specs.Stage.{Stage, step}
use Rattle.tml_tree.specs.Judging.{HavePassed, Passes, first_fault}
use Rattle.tml_tree.specs.Trees.{BreaksUnitRule, Document, Unclosed}
use Rattle.tml_tree.specs.Whole.{FaultOf}
use Rattle.tml_tree.proofs.FirstFaults.{first_of}
use Rattle.tml_tree.proofs.Passed.{passed_more, passed_not, unclosed_open, unclosed_none, document_is, no_elements, some_elements}

-- ---- one unit

closes : (same : Bool) (s : Stage) → first_of false (not same) false false ≡ None → (r : Stage) × (cond same (Some s) None ≡ Some r)
closes true s e = (s, refl)
closes false s e = absurd cc

-- an end tag without a fault has an open tag of its name
ends : (start end : ℕ) (name : List ℕ) (tags : List OpenTag) (nodes : List PlainNode) → first_of false (not (is_innermost name (map open_name tags))) false false ≡ None → (s : Stage) × (step tags nodes (unit start end (end_tag name)) ≡ Some s)
ends start end name [] nodes e = absurd cc
ends start end name (t ∷ tags) nodes e = closes (bytes_eq t.name name) _ e

-- a unit without a fault makes a step
steps : (start end : ℕ) (k : Kind) (h : History) (tags : List OpenTag) (nodes : List PlainNode) → h.names ≡ map open_name tags → first_fault h k ≡ None → (s : Stage) × (step tags nodes (unit start end k) ≡ Some s)
steps start end bom h tags nodes n e = (_, refl)
steps start end (declaration b) h tags nodes n e = (_, refl)
steps start end (doctype b) h tags nodes n e = (_, refl)
steps start end (comment b) h tags nodes n e = (_, refl)
steps start end (text b) h tags nodes n e = (_, refl)
steps start end (start_tag name attrs) h tags nodes n e = (_, refl)
steps start end (empty_tag name attrs) h tags nodes n e = (_, refl)
steps start end (end_tag name) h tags nodes n e = ends start end name tags nodes (ap (λ (ns : List (List ℕ)). first_of false (not (is_innermost name ns)) false false) (sym n) ∙ e)

-- units that pass do so with one more that passes
pub passes_on : (us : List PlainUnit) (u : PlainUnit) (tags : List OpenTag) (nodes : List PlainNode) (old new : History) → HavePassed us tags nodes old → Passes old u.kind new → (s : Stage) × HavePassed (us ++ u ∷ []) s.tags s.nodes new
passes_on us u tags nodes old new p k =
    let next = steps u.start u.end u.kind old tags nodes p.names k.0 in
    (next.0, subst (λ (h : History). HavePassed (us ++ u ∷ []) next.0.tags next.0.nodes h) (sym k.1) (passed_more us u tags nodes old next.0 p k.0 next.1))

-- the fault of a unit that is refused
pub refused : (end : ℕ) (us rest : List PlainUnit) (u : PlainUnit) (tags : List OpenTag) (nodes : List PlainNode) (h : History) (o : Option (FaultKind × ℕ)) → HavePassed us tags nodes h
    → IfSome o (λ f. (first_fault h u.kind ≡ Some f.0) × (f.1 ≡ u.start)) → IfSome o (λ f. FaultOf end (us ++ u ∷ rest) f.1 f.0)
refused end us rest u tags nodes h None p r = tt
refused end us rest u tags nodes h (Some f) p r = inl (rw r.1 (passed_not us rest u tags nodes h f.0 p r.0))

-- ---- the end

whole_by : (us : List PlainUnit) (tags : List OpenTag) (nodes : List PlainNode) → LeavesOpen (filter is_content us) tags nodes → NoneBreaks BreaksUnitRule us → AtMostOne tags nodes → (is_nil (map open_name tags) && is_seen tags nodes) ≡ true → (root : PlainNode) × Document root us
whole_by us [] nodes o l (inl none) e = let unseen = some_elements nodes none in absurd cc
whole_by us [] nodes o l (inr one) e = (one.0, document_is us one.0 nodes o l (inr one) ([], one.1))
whole_by us (t ∷ tags) nodes o l s e = absurd cc

unclosed_by : (us : List PlainUnit) (tags : List OpenTag) (nodes : List PlainNode) → LeavesOpen (filter is_content us) tags nodes → NoneBreaks BreaksUnitRule us → (is_nil (map open_name tags) && is_seen tags nodes) ≡ false → Unclosed us
unclosed_by us [] nodes o l e = unclosed_none us nodes o l (no_elements nodes e)
unclosed_by us (t ∷ tags) nodes o l e = unclosed_open us t tags nodes o l

module _ (us : List PlainUnit) (tags : List OpenTag) (nodes : List PlainNode) (h : History) (p : HavePassed us tags nodes h) where
  known : (is_nil h.names && h.seen) ≡ (is_nil (map open_name tags) && is_seen tags nodes)
  known = λ i. is_nil (p.names i) && p.seen i

  -- where no tag is open and the root was seen whole, there is a tree
  pub passed_whole : (is_nil h.names && h.seen) ≡ true → (root : PlainNode) × Document root us
  passed_whole e = whole_by us tags nodes p.opens p.lawful p.single (sym known ∙ e)

  -- else the root is not closed
  pub passed_unclosed : (is_nil h.names && h.seen) ≡ false → Unclosed us
  passed_unclosed e = unclosed_by us tags nodes p.opens p.lawful (sym known ∙ e)
