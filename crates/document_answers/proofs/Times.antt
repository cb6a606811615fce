-- The lines of times, one after another.
use Rattle.std.proofs.Common.{◌≡◌, ℕ, ◌+◌, ℤ, List, [], ◌++◌, codes, ◌≤◌, length, drop, refl, sym, subst, append_assoc, append-nil, add-one, Some}
use Rattle.std.specs.List.{slice_get}
use Rattle.std.proofs.lemmas.List.{drop_all}
use Rattle.tml_refs.specs.Documents.{PlainInterval}
use Rattle.document_answers.specs.Dates.{IsCivilText, EndsText, DateLine, DateLines, numbers}
use Rattle.document_answers.proofs.CheckLines.{left_at}

-- both ends after a word
pub ends_after : (lo hi : ℤ) (from to word old mid more new : List ℕ) → IsCivilText lo from → IsCivilText hi to → mid ≡ old ++ word → more ≡ mid ++ numbers lo hi
    → new ≡ more ++ (from ++ codes " " ++ to) → (ends : List ℕ) × EndsText lo hi ends × (new ≡ (old ++ word) ++ ends)
ends_after lo hi from to word old mid more new f t m n e = (
  numbers lo hi ++ from ++ codes " " ++ to,
  (from, to, f, t, refl),
  rw (e, n, m) (simp append_assoc),
)

-- what completes the lines of what is left completes those of all
abbrev pub Completes : List PlainInterval → List PlainInterval → List ℕ → Type 0
Completes left all out = (rest : List ℕ) → DateLines left rest → DateLines all (out ++ rest)

pub completes_more : (all : List PlainInterval) (i : ℕ) (v : PlainInterval) (out line new : List ℕ) → slice_get all i ≡ Some v → Completes (drop i all) all out → DateLine v line → new ≡ out ++ line → Completes (drop (i + 1) all) all new
completes_more all i v out line new e c h n = λ rest d.
    let next = subst (λ (k : ℕ). DateLines (drop k all) rest) (add-one i) d in
    let lines : DateLines (drop i all) (line ++ rest) = subst (λ (vs : List PlainInterval). DateLines vs (line ++ rest)) (sym (left_at all i v e)) (line, rest, h, next, refl) in
    rw n (subst (DateLines all) (sym (append_assoc out line rest)) (c (line ++ rest) lines))

pub completed : (all : List PlainInterval) (i : ℕ) (out : List ℕ) → length all ≤ i → Completes (drop i all) all out → DateLines all out
completed all i out h c = subst (DateLines all) (append-nil out) (c [] (rw (drop_all i all h) refl))
