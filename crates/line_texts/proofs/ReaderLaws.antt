-- Readers of lines, of many values, and of counted ones are exact.
use Rattle.std.proofs.Common.{◌≡◌, ℕ, zero, suc, List, [], ◌∷◌, ◌++◌, length, map, Option, Ok, refl, sym, ap, subst, ◌∙◌, arith}
use Rattle.std.specs.List.{All, AllByRecursion, flat_map}
use Rattle.std.proofs.lemmas.List.{append-nil}
use Rattle.std.proofs.lemmas.List.Concat.{flat_map_single}
use Rattle.std.proofs.lemmas.List.Elements.{All-from_recursion, recursion_from_All}
use Rattle.line_texts.specs.Lines.{Lines}
use Rattle.line_texts.specs.Reading.{Read, ◌>>=◌, line_at, many_at}
use Rattle.line_texts.specs.Grammar.{Then}
use Rattle.line_texts.specs.Numbers.{IsNumber, one_number}
use Rattle.line_texts.specs.Words.{one_of}
use Rattle.line_texts.proofs.Exact.{Exact, exact_line, exact_then, exact_give, exact_same}
use Rattle.line_texts.proofs.WordLaws.{IsForm, one_form}

-- the lines of a value that fits
abbrev pub Has : {A : Type 0} → (A → Type 0) → (A → Lines) → A → Lines → Type 0
Has Fits lines a ls = Fits a × (ls ≡ lines a)

-- a line of a form
pub exact_form : {A : Type 0} (text : A → List ℕ) (Fits : A → Type 0) (form : List ℕ → Option A) → (some : A) → Fits some → IsForm text Fits form → Exact (Has Fits (λ a. text a ∷ [])) (line_at form)
exact_form text Fits form some fits f = exact_line text Fits form some fits f.again f.found

-- a value made of the value that is read
pub exact_map : {A B : Type 0} (f : A → B) (G : A → Lines → Type 0) (p : Lines → Read A) → Exact G p → Exact (λ b ls. (a : A) × G a ls × (b ≡ f a)) (λ ls. p ls >>= λ x. Ok (f x.0, x.1))
exact_map {A} {B} f G p P =
    let Given = λ (a : A) (b : B) (ls : Lines). (b ≡ f a) × (ls ≡ []) in
    exact_same (Then G Given) (λ b ls. (a : A) × G a ls × (b ≡ f a)) (λ ls. p ls >>= λ x. Ok (f x.0, x.1))
    (λ b ls t. (t.0, subst (G t.0) (sym (t.5 ∙ ap (λ (x : Lines). t.1 ++ x) t.4.1 ∙ append-nil t.1)) t.3, t.4.0))
    (λ b ls h. (h.0, ls, [], h.1, (h.2, refl), sym (append-nil ls)))
    (exact_then G Given p (λ a ls. Ok (f a, ls)) P (λ a prefix g. exact_give (f a)))

-- ---- many

-- this number of values, by their lines
abbrev pub AreMany : {A : Type 0} → (A → Type 0) → (A → Lines) → ℕ → List A → Lines → Type 0
AreMany Fits lines n vs ls = AllByRecursion Fits vs × (length vs ≡ n) × (ls ≡ flat_map lines vs)

-- no value has no lines
nil_many : {A : Type 0} (Fits : A → Type 0) (lines : A → Lines) (vs : List A) (ls : Lines) → AreMany Fits lines 0 vs ls → (vs ≡ []) × (ls ≡ [])
nil_many Fits lines [] ls h = (refl, h.2)
nil_many Fits lines (a ∷ vs) ls h = absurd (let len = h.1 in omega arith)

-- of one value more, the first has the first lines
cons_many : {A : Type 0} (Fits : A → Type 0) (lines : A → Lines) (n : ℕ) (vs : List A) (ls : Lines) → AreMany Fits lines (suc n) vs ls
    → Then (Has Fits lines) (λ a b suffix. (more : List A) × AreMany Fits lines n more suffix × (b ≡ a ∷ more)) vs ls
cons_many Fits lines n [] ls h = absurd (let len = h.1 in omega arith)
cons_many Fits lines n (a ∷ vs) ls h = (a, lines a, flat_map lines vs, (h.0.0, refl), (vs, (h.0.1, (let len = h.1 in omega arith), refl), refl), h.2)

-- this number of values, one after another
pub exact_many : {A : Type 0} (Fits : A → Type 0) (lines : A → Lines) (p : Lines → Read A) → Exact (Has Fits lines) p → (n : ℕ) → Exact (AreMany Fits lines n) (many_at p n)
unfolding many_at
exact_many {A} Fits lines p P zero =
    exact_same (λ vs ls. (vs ≡ []) × (ls ≡ [])) (AreMany Fits lines 0) (λ ls. Ok ([], ls))
    (λ vs ls h. rw (h.0, h.1) (tt, refl, refl)) (nil_many Fits lines) (exact_give [])
exact_many {A} Fits lines p P (suc n) =
    let G = Has Fits lines in
    let H = λ (a : A) (b : List A) (suffix : Lines). (more : List A) × AreMany Fits lines n more suffix × (b ≡ a ∷ more) in
    exact_same (Then G H) (AreMany Fits lines (suc n)) (λ ls. p ls >>= λ a. many_at p n a.1 >>= λ more. Ok (a.0 ∷ more.0, more.1))
    (λ vs ls t.
    let m = t.4 in
    let whole : ls ≡ flat_map lines (t.0 ∷ m.0) = t.5 ∙ ap (λ (x : Lines). x ++ t.2) t.3.1 ∙ ap (λ (x : Lines). lines t.0 ++ x) m.1.2 in
    subst (λ (vs : List A). AreMany Fits lines (suc n) vs ls) (sym m.2) ((t.3.0, m.1.0), ap suc m.1.1, whole))
    (cons_many Fits lines n)
    (exact_then G H p (λ a ls. many_at p n ls >>= λ more. Ok (a ∷ more.0, more.1)) P (λ a prefix g. exact_map (λ more. a ∷ more) (AreMany Fits lines n) (many_at p n) (exact_many Fits lines p P n)))

-- ---- a count, and then this number of lines

-- the values of a list of which there are not too many
abbrev pub AreCounted : {A : Type 0} → (A → Type 0) → List A → Type 0
AreCounted Fits vs = All Fits vs × IsNumber (length vs)

-- a line that says how many there are, and then a line for each
pub exact_counted : {A : Type 0} (keyword : List ℕ) (line : A → List ℕ) (Fits : A → Type 0) (p : Lines → Read A) → Exact (Has Fits (λ a. line a ∷ [])) p
    → Exact (Has (AreCounted Fits) (λ vs. one_number keyword (length vs) ∷ map line vs)) (λ ls. line_at (one_of keyword) ls >>= λ n. many_at p n.0 n.1)
exact_counted {A} keyword line Fits p P =
    let G = Has IsNumber (λ n. one_number keyword n ∷ []) in
    let H = AreMany Fits (λ a. line a ∷ []) in
    exact_same (Then G H) (Has (AreCounted Fits) (λ vs. one_number keyword (length vs) ∷ map line vs)) (λ ls. line_at (one_of keyword) ls >>= λ n. many_at p n.0 n.1)
    (λ vs ls t.
    let m = t.4 in
    ((All-from_recursion Fits vs m.0, subst IsNumber (sym m.1) t.3.0), t.5 ∙ ap (λ (x : Lines). x ++ t.2) (t.3.1 ∙ ap (λ (n : ℕ). one_number keyword n ∷ []) (sym m.1)) ∙ ap (λ (x : Lines). one_number keyword (length vs) ∷ x) (m.2 ∙ flat_map_single line vs)))
    (λ vs ls h. (length vs, one_number keyword (length vs) ∷ [], flat_map (λ a. line a ∷ []) vs, (h.0.1, refl), (recursion_from_All Fits vs h.0.0, refl, refl), h.1 ∙ ap (λ (x : Lines). one_number keyword (length vs) ∷ x) (sym (flat_map_single line vs))))
    (exact_then G H (line_at (one_of keyword)) (many_at p) (exact_form (one_number keyword) IsNumber (one_of keyword) 0 (omega arith) (one_form keyword)) (λ n prefix g. exact_many Fits (λ a. line a ∷ []) p P n))
