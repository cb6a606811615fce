-- Readers of values up to the last line, and between a first line and the last one, are exact.
use Rattle.std.proofs.Common.{◌≡◌, List, [], ◌∷◌, ◌++◌, ℕ, Ok, Err, refl, sym, ap, subst, ◌∙◌}
use Rattle.line_texts.specs.Lines.{Lines, last_line}
use Rattle.line_texts.specs.Reading.{Read, ◌>>=◌, line_at, ended, end_at}
use Rattle.line_texts.specs.Grammar.{Then}
use Rattle.line_texts.specs.Words.{same_of}
use Rattle.line_texts.proofs.Exact.{Exact, exact_then, exact_same}
use Rattle.line_texts.proofs.WordLaws.{same_form}
use Rattle.line_texts.proofs.ReaderLaws.{Has, exact_form, exact_map}

-- one line that is known
abbrev Fixed : List ℕ → Unit {0} → Lines → Type 0
Fixed text = Has (λ u. Unit {0}) (λ u. text ∷ [])

-- a line that is known
exact_fixed : (text : List ℕ) → Exact (Fixed text) (line_at (same_of text))
exact_fixed text = exact_form (λ (u : Unit {0}). text) (λ u. Unit {0}) (same_of text) tt tt (same_form text)

-- ---- the last line

-- the lines of a value, and the last line
abbrev pub Closed : {A : Type 0} → (A → Lines → Type 0) → A → Lines → Type 0
Closed G a ls = (prefix : Lines) × G a prefix × (ls ≡ prefix ++ last_line ∷ [])

-- a value that is read, and the last line
abbrev pub closed : {A : Type 0} → Read A → Read A
closed read = read >>= λ a. line_at (same_of last_line) a.1 >>= λ last. Ok (a.0, last.1)

-- a value, and the last line
pub exact_closed : {A : Type 0} (G : A → Lines → Type 0) (p : Lines → Read A) → Exact G p → Exact (Closed G) (λ ls. closed (p ls))
exact_closed {A} G p P =
    let Last = λ (a : A) (b : A) (ls : Lines). (u : Unit {0}) × Fixed last_line u ls × (b ≡ a) in
    exact_same (Then G Last) (Closed G) (λ ls. p ls >>= λ a. line_at (same_of last_line) a.1 >>= λ last. Ok (a.0, last.1))
    (λ b ls t. let last = t.4 in (t.1, subst (λ (a : A). G a t.1) (sym last.2) t.3, t.5 ∙ ap (λ (x : Lines). t.1 ++ x) last.1.1))
    (λ b ls h. (b, h.0, last_line ∷ [], h.1, (tt, (tt, refl), refl), h.2))
    (exact_then G Last p (λ a ls. line_at (same_of last_line) ls >>= λ last. Ok (a, last.1)) P (λ a prefix g. exact_map (λ u. a) (Fixed last_line) (line_at (same_of last_line)) (exact_fixed last_line)))

-- a value, and the lines that follow it
abbrev with_rest : {A : Type 0} → A → Lines → Read A
with_rest a ls = Ok (a, ls)

-- with nothing after the last line, no line is left
last_is : {A : Type 0} (a : A) (last : Read (Unit {0})) → ((last >>= λ l. ended l.0 l.1) >>= λ u. Ok a) ≡ ((last >>= λ l. with_rest a l.1) >>= λ x. ended x.0 x.1)
last_is a (Ok (u, [])) = refl
last_is a (Ok (u, l ∷ ls)) = refl
last_is a (Err ls) = refl

-- a value with the last line after it, and no line after that
end_is : {A : Type 0} (read : Read A) → (read >>= λ a. end_at a.1 >>= λ u. Ok a.0) ≡ (closed read >>= λ x. ended x.0 x.1)
unfolding end_at
end_is (Ok a) = last_is a.0 (line_at (same_of last_line) a.1)
end_is (Err ls) = refl

-- the same after a value that was read before
pub ends_after : {A B : Type 0} (read : Read B) (p : B → Lines → Read A) → (read >>= λ b. p b.0 b.1 >>= λ a. end_at a.1 >>= λ u. Ok a.0) ≡ ((read >>= λ b. closed (p b.0 b.1)) >>= λ x. ended x.0 x.1)
ends_after (Ok b) p = end_is (p b.0 b.1)
ends_after (Err ls) p = refl

-- ---- a text

-- values that fit, by the lines of each between a first line and the last one
pub exact_between : {A : Type 0} (first : List ℕ) (Fits : A → Type 0) (body : A → Lines) (p : Lines → Read A) → Exact (Has Fits body) p
    → Exact (Has Fits (λ a. first ∷ (body a ++ last_line ∷ []))) (λ ls. line_at (same_of first) ls >>= λ u. closed (p u.1))
exact_between first Fits body p P =
    exact_same (Then (Fixed first) (λ u. Closed (Has Fits body))) (Has Fits (λ a. first ∷ (body a ++ last_line ∷ []))) (λ ls. line_at (same_of first) ls >>= λ u. closed (p u.1))
    (λ a ls t.
    let c = t.4 in
    (c.1.0, t.5 ∙ ap (λ (x : Lines). x ++ t.2) t.3.1 ∙ ap (λ (x : Lines). first ∷ x) (c.2 ∙ ap (λ (x : Lines). x ++ last_line ∷ []) c.1.1)))
    (λ a ls h. (tt, first ∷ [], body a ++ last_line ∷ [], (tt, refl), (body a, (h.0, refl), refl), h.1))
    (exact_then (Fixed first) (λ u. Closed (Has Fits body)) (line_at (same_of first)) (λ u ls. closed (p ls)) (exact_fixed first)
    (λ u prefix g. exact_closed (Has Fits body) p P))
