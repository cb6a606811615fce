-- The lines of intervals and links, one after another.
use Rattle.std.proofs.Common.{◌≡◌, ℕ, zero, suc, ◌+◌, List, [], ◌∷◌, ◌++◌, drop, refl, sym, ap, ◌∙◌, append_assoc, add-one, Some}
use Rattle.std.specs.List.{slice_get}
use Rattle.tml_refs.specs.declared.document.DocLink.{DocLink}
use Rattle.tml_refs.specs.Documents.{PlainInterval}
use Rattle.answers.specs.Lines.{link_line}
use Rattle.document_answers.specs.Check as texts

-- what is left from a place on is the item there and what is left after it
pub left_at : {X : Type 0} (xs : List X) (i : ℕ) (x : X) → slice_get xs i ≡ Some x → drop i xs ≡ x ∷ drop (suc i) xs
left_at [] i x h = absurd cc
left_at (y ∷ xs) zero x h = cc
left_at (y ∷ xs) (suc i) x h = left_at xs i x h

-- the lines of what is left are that of the next interval and those of the others
pub next_interval : (intervals : List PlainInterval) (i : ℕ) (v : PlainInterval) → slice_get intervals i ≡ Some v
    → texts.interval_lines i (drop i intervals) ≡ texts.interval_line i v ++ texts.interval_lines (i + 1) (drop (i + 1) intervals)
next_interval intervals i v h = rw (left_at intervals i v h, add-one i) refl

pub next_link : (intervals : List PlainInterval) (links : List DocLink) (k : ℕ) (l : DocLink) → slice_get links k ≡ Some l
    → texts.link_lines intervals k (drop k links) ≡ link_line intervals k l ++ texts.link_lines intervals (k + 1) (drop (k + 1) links)
next_link intervals links k l h = rw (left_at links k l h, add-one k) refl

-- a line after the text so far, and what is left after that
pub line_after : (out new line rest left all : List ℕ) → out ++ left ≡ all → left ≡ line ++ rest → new ≡ out ++ line → new ++ rest ≡ all
line_after out new line rest left all h l w = rw w (append_assoc out line rest ∙ ap (λ (t : List ℕ). out ++ t) (sym l) ∙ h)
