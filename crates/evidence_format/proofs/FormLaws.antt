-- The forms of lines of steps, and of those that name the kind of evidence.
use Rattle.std.proofs.Common.{◌≡◌, ℕ, List, inl, inr, Some, None, refl, subst}
use Rattle.std.specs.Prelude.{codes, option_map}
use Rattle.net_core.specs.declared.rels.Rel.{Rel}
use Rattle.net_core.specs.declared.step.Step.{Step}
use Rattle.net_core.specs.declared.step.Step.TheVariants as step
use Rattle.evidence_format.specs.declared.head.EvidenceHead.{EvidenceHead}
use Rattle.evidence_format.specs.declared.head.EvidenceHead.TheVariants as head
use Rattle.line_texts.specs.Words.{after, one_of, two_of, relation_of}
use Rattle.evidence_format.specs.Forms.{step_of, head_of}
use Rattle.line_texts.specs.Numbers.{IsNumber, one_number, two_numbers, relation_line}
use Rattle.evidence_format.specs.Evidence.{HasNumbers, step_line}
use Rattle.line_texts.proofs.WordLaws.{IsForm, one_form, two_form, relation_form, some_mapped, either}

-- ---- steps

-- a line is that of a step
abbrev SaysStep : List ℕ → Step → Type 0
SaysStep l s = (step_line s ≡ l) × HasNumbers s

-- a line of which a step is read is its line
step_found : (l : List ℕ) (s : Step) → step_of l ≡ Some s → SaysStep l s
unfolding step_of
step_found l s e =
    elim (either (option_map (λ pair. step.Link pair.0 pair.1) (two_of (codes "via ") l)) _ s e) [
      | inl h ↦ let m = some_mapped (λ pair. step.Link pair.0 pair.1) (two_of (codes "via ") l) s h in subst (SaysStep l) m.2 ((two_form (codes "via ")).found l m.0 m.1)
      | inr k ↦ elim (either (option_map (λ i. step.Span i) (one_of (codes "span ") l)) _ s k) [
        | inl h ↦ let m = some_mapped (λ i. step.Span i) (one_of (codes "span ") l) s h in subst (SaysStep l) m.2 ((one_form (codes "span ")).found l m.0 m.1)
        | inr h ↦ let m = some_mapped (λ pair. step.Calendar pair.0 pair.1) (two_of (codes "calendar ") l) s h in subst (SaysStep l) m.2 ((two_form (codes "calendar ")).found l m.0 m.1)
      ]
    ]

-- a span is not read as a step by a link
no_via_span : (i : ℕ) → two_of (codes "via ") (one_number (codes "span ") i) ≡ None
unfolding two_of after
no_via_span i = refl

-- a step by the calendar is not read as one by a link
no_via_calendar : (p q : ℕ) → two_of (codes "via ") (two_numbers (codes "calendar ") p q) ≡ None
unfolding two_of after
no_via_calendar p q = refl

-- a step by the calendar is not read as a span
no_span_calendar : (p q : ℕ) → one_of (codes "span ") (two_numbers (codes "calendar ") p q) ≡ None
unfolding one_of after
no_span_calendar p q = refl

-- a step is read of its line
step_again : (s : Step) → HasNumbers s → step_of (step_line s) ≡ Some s
unfolding step_of
step_again (step.Link k t) h = rw ((two_form (codes "via ")).again (k, t) h) refl
step_again (step.Span i) h = rw (no_via_span i, (one_form (codes "span ")).again i h) refl
step_again (step.Calendar p q) h = rw (no_via_calendar p q, no_span_calendar p q, (two_form (codes "calendar ")).again (p, q) h) refl

-- lines of steps
pub step_form : IsForm step_line HasNumbers step_of
step_form = record { again = step_again; found = step_found }

-- ---- the kinds of evidence

-- the line that names the kind
abbrev pub head_line : EvidenceHead → List ℕ
head_line (head.Timeline n) = one_number (codes "timeline ") n
head_line (head.Entails a r b) = relation_line (codes "entails ") a r b
head_line (head.Counter a r b) = relation_line (codes "counter ") a r b
head_line (head.Clash n) = one_number (codes "clash ") n

-- its numbers can stand in a text
abbrev pub IsHead : EvidenceHead → Type 0
IsHead (head.Timeline n) = IsNumber n
IsHead (head.Entails a r b) = IsNumber a × IsNumber b
IsHead (head.Counter a r b) = IsNumber a × IsNumber b
IsHead (head.Clash n) = IsNumber n

-- a line names a kind
abbrev SaysHead : List ℕ → EvidenceHead → Type 0
SaysHead l h = (head_line h ≡ l) × IsHead h

-- a line of which a kind is read names it
head_found : (l : List ℕ) (h : EvidenceHead) → head_of l ≡ Some h → SaysHead l h
unfolding head_of
head_found l h e =
    elim (either (option_map (λ n. head.Timeline n) (one_of (codes "timeline ") l)) _ h e) [
      | inl k ↦ let m = some_mapped (λ n. head.Timeline n) (one_of (codes "timeline ") l) h k in subst (SaysHead l) m.2 ((one_form (codes "timeline ")).found l m.0 m.1)
      | inr k ↦ elim (either (option_map (λ x. head.Entails x.0 x.1 x.2) (relation_of (codes "entails ") l)) _ h k) [
        | inl k ↦ let m = some_mapped (λ x. head.Entails x.0 x.1 x.2) (relation_of (codes "entails ") l) h k in subst (SaysHead l) m.2 ((relation_form (codes "entails ")).found l m.0 m.1)
        | inr k ↦ elim (either (option_map (λ x. head.Counter x.0 x.1 x.2) (relation_of (codes "counter ") l)) _ h k) [
          | inl k ↦ let m = some_mapped (λ x. head.Counter x.0 x.1 x.2) (relation_of (codes "counter ") l) h k in subst (SaysHead l) m.2 ((relation_form (codes "counter ")).found l m.0 m.1)
          | inr k ↦ let m = some_mapped (λ n. head.Clash n) (one_of (codes "clash ") l) h k in subst (SaysHead l) m.2 ((one_form (codes "clash ")).found l m.0 m.1)
        ]
      ]
    ]

-- an entailment is not read as a timeline
no_timeline_entails : (a : ℕ) (r : Rel) (b : ℕ) → one_of (codes "timeline ") (relation_line (codes "entails ") a r b) ≡ None
unfolding one_of after
no_timeline_entails a r b = refl

-- a counterexample is not read as a timeline
no_timeline_counter : (a : ℕ) (r : Rel) (b : ℕ) → one_of (codes "timeline ") (relation_line (codes "counter ") a r b) ≡ None
unfolding one_of after
no_timeline_counter a r b = refl

-- a counterexample is not read as an entailment
no_entails_counter : (a : ℕ) (r : Rel) (b : ℕ) → relation_of (codes "entails ") (relation_line (codes "counter ") a r b) ≡ None
unfolding relation_of after
no_entails_counter a r b = refl

-- a clash is not read as a timeline
no_timeline_clash : (n : ℕ) → one_of (codes "timeline ") (one_number (codes "clash ") n) ≡ None
unfolding one_of after
no_timeline_clash n = refl

-- a clash is not read as an entailment
no_entails_clash : (n : ℕ) → relation_of (codes "entails ") (one_number (codes "clash ") n) ≡ None
unfolding relation_of after
no_entails_clash n = refl

-- a clash is not read as a counterexample
no_counter_clash : (n : ℕ) → relation_of (codes "counter ") (one_number (codes "clash ") n) ≡ None
unfolding relation_of after
no_counter_clash n = refl

-- a kind is read of its line
head_again : (h : EvidenceHead) → IsHead h → head_of (head_line h) ≡ Some h
unfolding head_of
head_again (head.Timeline n) f = rw ((one_form (codes "timeline ")).again n f) refl
head_again (head.Entails a r b) f = rw (no_timeline_entails a r b, (relation_form (codes "entails ")).again (a, r, b) f) refl
head_again (head.Counter a r b) f = rw (no_timeline_counter a r b, no_entails_counter a r b, (relation_form (codes "counter ")).again (a, r, b) f) refl
head_again (head.Clash n) f = rw (no_timeline_clash n, no_entails_clash n, no_counter_clash n, (one_form (codes "clash ")).again n f) refl

-- lines that name a kind
pub head_form : IsForm head_line IsHead head_of
head_form = record { again = head_again; found = head_found }
