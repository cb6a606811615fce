-- The forms of the lines of cycles, and of those that name the kind of evidence.
use Rattle.std.proofs.Common.{◌≡◌, ℕ, List, inl, inr, Some, None, refl, subst}
use Rattle.std.specs.Prelude.{codes, option_map}
use Rattle.line_texts.specs.Numbers.{IsNumber, one_number, two_numbers}
use Rattle.line_texts.specs.Words.{after, one_of, two_of}
use Rattle.line_texts.proofs.WordLaws.{either, some_mapped, IsForm, one_form, two_form}
use Rattle.seconds_core.specs.declared.line.Line.{Line}
use Rattle.seconds_core.specs.declared.line.Line.TheVariants.{Span, Via, Lower, Upper, Least, Most}
use Rattle.seconds_format.specs.declared.head.SecondsHead.{SecondsHead}
use Rattle.seconds_format.specs.declared.head.SecondsHead.TheVariants as head
use Rattle.seconds_format.specs.Forms.{cycle_line_of, head_of}
use Rattle.seconds_format.specs.Texts.{HasLineNumbers, cycle_line}

-- a line with another keyword has no number of this one
no_one : (keyword line : List ℕ) → after keyword line ≡ None → one_of keyword line ≡ None
unfolding one_of
no_one keyword line e = rw e refl

-- and no two numbers of it
no_two : (keyword line : List ℕ) → after keyword line ≡ None → two_of keyword line ≡ None
unfolding two_of
no_two keyword line e = rw e refl

-- ---- the lines of cycles

-- what a line says is read of it
cycle_line_again : (line : Line) → HasLineNumbers line → cycle_line_of (cycle_line line) ≡ Some line
unfolding cycle_line_of after
cycle_line_again (Span i) h = rw ((one_form (codes "span ")).again i h) refl
cycle_line_again (Via link atom) h =
    let l = two_numbers (codes "via ") link atom in
    rw (no_one (codes "span ") l refl, (two_form (codes "via ")).again (link, atom) h) refl
cycle_line_again (Lower p) h =
    let l = one_number (codes "lower ") p in
    rw (no_one (codes "span ") l refl, no_two (codes "via ") l refl, (one_form (codes "lower ")).again p h) refl
cycle_line_again (Upper p) h =
    let l = one_number (codes "upper ") p in
    rw (no_one (codes "span ") l refl, no_two (codes "via ") l refl, no_one (codes "lower ") l refl, (one_form (codes "upper ")).again p h) refl
cycle_line_again (Least i) h =
    let l = one_number (codes "least ") i in
    rw (no_one (codes "span ") l refl, no_two (codes "via ") l refl, no_one (codes "lower ") l refl, no_one (codes "upper ") l refl, (one_form (codes "least ")).again i h) refl
cycle_line_again (Most i) h =
    let l = one_number (codes "most ") i in
    rw (no_one (codes "span ") l refl, no_two (codes "via ") l refl, no_one (codes "lower ") l refl, no_one (codes "upper ") l refl, no_one (codes "least ") l refl, (one_form (codes "most ")).again i h) refl

-- a line says what is read of it
abbrev Says : List ℕ → Line → Type 0
Says l line = (cycle_line line ≡ l) × HasLineNumbers line

-- a line of which something is read says it
cycle_line_found : (l : List ℕ) (line : Line) → cycle_line_of l ≡ Some line → Says l line
unfolding cycle_line_of
cycle_line_found l line e =
    elim (either (option_map (λ i. Span i) (one_of (codes "span ") l)) _ line e) [
      | inl h ↦ let m = some_mapped (λ i. Span i) (one_of (codes "span ") l) line h in subst (Says l) m.2 ((one_form (codes "span ")).found l m.0 m.1)
      | inr e ↦ elim (either (option_map (λ pair. Via pair.0 pair.1) (two_of (codes "via ") l)) _ line e) [
        | inl h ↦ let m = some_mapped (λ pair. Via pair.0 pair.1) (two_of (codes "via ") l) line h in subst (Says l) m.2 ((two_form (codes "via ")).found l m.0 m.1)
        | inr e ↦ elim (either (option_map (λ p. Lower p) (one_of (codes "lower ") l)) _ line e) [
          | inl h ↦ let m = some_mapped (λ p. Lower p) (one_of (codes "lower ") l) line h in subst (Says l) m.2 ((one_form (codes "lower ")).found l m.0 m.1)
          | inr e ↦ elim (either (option_map (λ p. Upper p) (one_of (codes "upper ") l)) _ line e) [
            | inl h ↦ let m = some_mapped (λ p. Upper p) (one_of (codes "upper ") l) line h in subst (Says l) m.2 ((one_form (codes "upper ")).found l m.0 m.1)
            | inr e ↦ elim (either (option_map (λ i. Least i) (one_of (codes "least ") l)) _ line e) [
              | inl h ↦ let m = some_mapped (λ i. Least i) (one_of (codes "least ") l) line h in subst (Says l) m.2 ((one_form (codes "least ")).found l m.0 m.1)
              | inr h ↦ let m = some_mapped (λ i. Most i) (one_of (codes "most ") l) line h in subst (Says l) m.2 ((one_form (codes "most ")).found l m.0 m.1)
            ]
          ]
        ]
      ]
    ]

-- lines of cycles
pub cycle_line_form : IsForm cycle_line HasLineNumbers cycle_line_of
cycle_line_form = record { again = cycle_line_again; found = cycle_line_found }

-- ---- the kinds of evidence

-- the line that names the kind
abbrev pub head_line : SecondsHead → List ℕ
head_line (head.Placing n) = one_number (codes "placing ") n
head_line (head.Cycle n) = one_number (codes "cycle ") n

-- its number can stand in a text
abbrev pub IsHead : SecondsHead → Type 0
IsHead (head.Placing n) = IsNumber n
IsHead (head.Cycle n) = IsNumber n

-- a line names a kind
abbrev SaysHead : List ℕ → SecondsHead → Type 0
SaysHead l h = (head_line h ≡ l) × IsHead h

-- a line of which a kind is read names it
head_found : (l : List ℕ) (h : SecondsHead) → head_of l ≡ Some h → SaysHead l h
unfolding head_of
head_found l h e =
    elim (either (option_map (λ n. head.Placing n) (one_of (codes "placing ") l)) _ h e) [
      | inl k ↦ let m = some_mapped (λ n. head.Placing n) (one_of (codes "placing ") l) h k in subst (SaysHead l) m.2 ((one_form (codes "placing ")).found l m.0 m.1)
      | inr k ↦ let m = some_mapped (λ n. head.Cycle n) (one_of (codes "cycle ") l) h k in subst (SaysHead l) m.2 ((one_form (codes "cycle ")).found l m.0 m.1)
    ]

-- a kind is read of its line
head_again : (h : SecondsHead) → IsHead h → head_of (head_line h) ≡ Some h
unfolding head_of after
head_again (head.Placing n) f = rw ((one_form (codes "placing ")).again n f) refl
head_again (head.Cycle n) f = rw (no_one (codes "placing ") (one_number (codes "cycle ") n) refl, (one_form (codes "cycle ")).again n f) refl

-- lines that name a kind
pub head_form : IsForm head_line IsHead head_of
head_form = record { again = head_again; found = head_found }
