-- Texts and their lines.
use Rattle.std.proofs.Common.{◌≡◌, ℕ, ◌+◌, ◌-◌, ◌≤◌, true, false, cond, not, eqb, ◌&&◌, List, [], ◌∷◌, ◌++◌, length, map, take, Option, Some, None, Ok, Err, refl, sym, ap, ◌∙◌, append_assoc, length-append, arith, rules}
use Rattle.std.specs.Prelude.{decimal, codes}
use Rattle.std.specs.List.{concat, flat_map, list_all, count_by, AllByRecursion}
use Rattle.std.proofs.lemmas.List.{take_at}
use Rattle.std.proofs.lemmas.List.Sums.{sum_by-cons, sum_by-append}
use Rattle.named.proofs.Lists.{all_append, each_flat_map, each_weaker}
use Rattle.net_core.specs.Rels.{rel_text}
use Rattle.net_core.specs.declared.rels.Rel.{Rel}
use Rattle.line_texts.specs.Lines.{Lines, is_lf, with_byte, lines_of}
use Rattle.line_texts.specs.Words.{is_not, two_of, two_to}
use Rattle.line_texts.specs.Reading.{Read, taken, line_at}
use Rattle.line_texts.specs.Numbers.{IsNumber, one_number, two_numbers, relation_line}
use Rattle.line_texts.proofs.WordLaws.{digits_differ, pair_line, two_form, two_to_again, two_to_found}

-- ---- the lines of a text are the text

-- a byte at the start of the first line is at the start of the text
with_byte_concat : (b : ℕ) (ls : Lines) → concat (with_byte b ls) ≡ b ∷ concat ls
with_byte_concat b [] = refl
with_byte_concat b (l ∷ ls) = refl

-- the lines of a text, joined, are the text
pub lines_concat : (bytes : List ℕ) → concat (lines_of bytes) ≡ bytes
unfolding lines_of
lines_concat [] = refl
lines_concat (b ∷ bytes) = elim (eqb b 10) as (λ t. concat (cond t ((b ∷ []) ∷ lines_of bytes) (with_byte b (lines_of bytes))) ≡ b ∷ bytes) [
  | true ↦ ap (λ (x : List ℕ). b ∷ x) (lines_concat bytes)
  | false ↦ with_byte_concat b (lines_of bytes) ∙ ap (λ (x : List ℕ). b ∷ x) (lines_concat bytes)
]

-- ---- whole lines are the lines of their text

-- bytes without LF, and then LF
abbrev pub IsLine : List ℕ → Type 0
IsLine l = (prefix : List ℕ) × (list_all (is_not 10) prefix ≡ true) × (l ≡ prefix ++ 10 ∷ [])

-- the first line is what stands up to the first LF
first_is : (prefix rest : List ℕ) → list_all (is_not 10) prefix ≡ true → lines_of (prefix ++ 10 ∷ rest) ≡ (prefix ++ 10 ∷ []) ∷ lines_of rest
unfolding lines_of
first_is [] rest h = refl
first_is (b ∷ prefix) rest h = elim (eqb b 10) as (λ t. (not t && list_all (is_not 10) prefix) ≡ true → cond t ((b ∷ []) ∷ lines_of (prefix ++ 10 ∷ rest)) (with_byte b (lines_of (prefix ++ 10 ∷ rest))) ≡ (b ∷ (prefix ++ 10 ∷ [])) ∷ lines_of rest) [
  | true ↦ λ e. absurd cc
  | false ↦ λ e. ap (with_byte b) (first_is prefix rest e)
] h

-- whole lines are the lines of what they are joined to
pub lines_again : (ls : Lines) → AllByRecursion IsLine ls → lines_of (concat ls) ≡ ls
unfolding lines_of
lines_again [] h = refl
lines_again (l ∷ ls) h =
    let s = h.0 in
    let grouped : concat (l ∷ ls) ≡ s.0 ++ 10 ∷ concat ls = ap (λ (x : List ℕ). x ++ concat ls) s.2 ∙ append_assoc s.0 (10 ∷ []) (concat ls) in
    ap lines_of grouped ∙ first_is s.0 (concat ls) s.1 ∙ rw (lines_again ls h.1, ← s.2) refl

-- ---- lines of numbers

-- a keyword and one number are a whole line
pub one_is : (keyword : List ℕ) (n : ℕ) → list_all (is_not 10) keyword ≡ true → IsNumber n → IsLine (one_number keyword n)
one_is keyword n h small = (keyword ++ decimal n, all_append (is_not 10) keyword (decimal n) h (digits_differ 10 n (omega arith) small), refl)

-- a keyword and two numbers are a whole line
pub two_is : (keyword : List ℕ) (m n : ℕ) → list_all (is_not 10) keyword ≡ true → IsNumber m → IsNumber n → IsLine (two_numbers keyword m n)
two_is keyword m n h small_m small_n =
    let one = all_append (is_not 10) keyword (decimal m) h (digits_differ 10 m (omega arith) small_m) in
    let space = all_append (is_not 10) (keyword ++ decimal m) (codes " ") one refl in
    (keyword ++ decimal m ++ codes " " ++ decimal n, all_append (is_not 10) (keyword ++ decimal m ++ codes " ") (decimal n) space (digits_differ 10 n (omega arith) small_n), refl)

-- a pair that is read at the start of a text, and what follows it
abbrev given_at : Option ((ℕ × ℕ) × List ℕ) → List ℕ → Read (ℕ × ℕ)
given_at (Some x) text = Ok (x.0, lines_of x.1)
given_at None text = Err (lines_of text)

-- a pair that is read is that of the first line
pair_read : (keyword text : List ℕ) (p : ℕ × ℕ) (rest : List ℕ) → list_all (is_not 10) keyword ≡ true → two_to keyword text ≡ Some (p, rest) → line_at (two_of keyword) (lines_of text) ≡ Ok (p, lines_of rest)
pair_read keyword text p rest h e =
    let f = two_to_found keyword text p rest e in
    let s = two_is keyword p.0 p.1 h f.1.0 f.1.1 in
    let whole : text ≡ s.0 ++ 10 ∷ rest = sym f.0 ∙ ap (λ (x : List ℕ). x ++ rest) s.2 ∙ append_assoc s.0 (10 ∷ []) rest in
    let cut : lines_of text ≡ pair_line keyword p ∷ lines_of rest = ap lines_of whole ∙ first_is s.0 rest s.1 ∙ ap (λ (l : List ℕ). l ∷ lines_of rest) (sym s.2) in
    rw (cut, (two_form keyword).again p f.1) refl

-- where no pair is read, the first line is that of none
no_pair : (keyword text : List ℕ) (ls : Lines) → two_to keyword text ≡ None → lines_of text ≡ ls → line_at (two_of keyword) ls ≡ Err ls
no_pair keyword text [] e k = refl
no_pair keyword text (l ∷ ls) e k =
    elim (two_of keyword l) as (λ o. two_of keyword l ≡ o → taken o l ls ≡ Err (l ∷ ls)) [
      | None ↦ λ g. refl
      | Some p ↦ λ g.
          let f = (two_form keyword).found l p g in
          let whole : pair_line keyword p ++ concat ls ≡ text = ap (λ (x : List ℕ). x ++ concat ls) f.0 ∙ ap concat (sym k) ∙ lines_concat text in
          let read : two_to keyword text ≡ Some (p, concat ls) = ap (two_to keyword) (sym whole) ∙ two_to_again keyword p (concat ls) f.1 in
          absurd cc
    ] refl

-- the pair of a line can be read before the line is cut off
pub pair_at : (keyword text : List ℕ) → list_all (is_not 10) keyword ≡ true → line_at (two_of keyword) (lines_of text) ≡ given_at (two_to keyword text) text
pair_at keyword text h =
    elim (two_to keyword text) as (λ o. two_to keyword text ≡ o → line_at (two_of keyword) (lines_of text) ≡ given_at o text) [
      | Some x ↦ λ e. pair_read keyword text x.0 x.1 h e
      | None ↦ λ e. no_pair keyword text (lines_of text) e refl
    ] refl

-- the text of a relation has no LF
rel_is : (r : Rel) → list_all (is_not 10) (rel_text r) ≡ true
rel_is r = search rules

-- a keyword and a relation between two intervals are a whole line
pub relation_is : (keyword : List ℕ) (a : ℕ) (r : Rel) (b : ℕ) → list_all (is_not 10) keyword ≡ true → IsNumber a → IsNumber b → IsLine (relation_line keyword a r b)
relation_is keyword a r b h small_a small_b =
    let one = all_append (is_not 10) keyword (decimal a) h (digits_differ 10 a (omega arith) small_a) in
    let space = all_append (is_not 10) (keyword ++ decimal a) (codes " ") one refl in
    let rel = all_append (is_not 10) (keyword ++ decimal a ++ codes " ") (rel_text r) space (rel_is r) in
    let other = all_append (is_not 10) (keyword ++ decimal a ++ codes " " ++ rel_text r) (codes " ") rel refl in
    (keyword ++ decimal a ++ codes " " ++ rel_text r ++ codes " " ++ decimal b, all_append (is_not 10) (keyword ++ decimal a ++ codes " " ++ rel_text r ++ codes " ") (decimal b) other (digits_differ 10 b (omega arith) small_b), refl)

-- a line for each value, each a whole one
pub mapped_are : {A : Type 0} (Fits : A → Type 0) (line : A → List ℕ) → ((a : A) → Fits a → IsLine (line a)) → (vs : List A) → AllByRecursion Fits vs → AllByRecursion IsLine (map line vs)
mapped_are Fits line each [] h = tt
mapped_are Fits line each (v ∷ vs) h = (each v h.0, mapped_are Fits line each vs h.1)

-- lines for each value, all whole
pub flat_are : {A : Type 0} (Fits : A → Type 0) (lines : A → Lines) → ((a : A) → Fits a → AllByRecursion IsLine (lines a)) → (vs : List A) → AllByRecursion Fits vs → AllByRecursion IsLine (flat_map lines vs)
flat_are Fits lines each vs h = each_flat_map IsLine lines vs (each_weaker Fits (λ v. AllByRecursion IsLine (lines v)) each vs h)

-- ---- lines, joined

-- lines and lines after them, joined
pub concat_append : (a b : Lines) → concat (a ++ b) ≡ concat a ++ concat b
concat_append [] b = refl
concat_append (l ∷ a) b = ap (λ (x : List ℕ). l ++ x) (concat_append a b) ∙ sym (append_assoc l (concat a) (concat b))

-- lines, one for each value, joined
pub mapped : {A : Type 0} (f : A → List ℕ) (vs : List A) → concat (map f vs) ≡ flat_map f vs
mapped f [] = refl
mapped f (v ∷ vs) = ap (λ (x : List ℕ). f v ++ x) (mapped f vs)

-- lines and lines after them, joined
pub joined : (a b : Lines) (x y : List ℕ) → concat a ≡ x → concat b ≡ y → concat (a ++ b) ≡ x ++ y
joined a b x y p q = concat_append a b ∙ rw (p, q) refl

-- lines, some for each value, joined
pub flat : {A : Type 0} (lines : A → Lines) (bytes : A → List ℕ) → ((v : A) → concat (lines v) ≡ bytes v) → (vs : List A) → concat (flat_map lines vs) ≡ flat_map bytes vs
flat lines bytes each [] = refl
flat lines bytes each (v ∷ vs) = joined (lines v) (flat_map lines vs) (bytes v) (flat_map bytes vs) (each v) (flat lines bytes each vs)

-- ---- the number of a line

-- bytes without LF have none
one_lf : (prefix : List ℕ) → list_all (is_not 10) prefix ≡ true → count_by is_lf prefix ≡ 0
one_lf [] h = refl
one_lf (b ∷ prefix) h = sum_by-cons (λ x. cond (is_lf x) 1 0) b prefix ∙ elim (eqb b 10) as (λ t. (not t && list_all (is_not 10) prefix) ≡ true → cond t 1 0 + count_by is_lf prefix ≡ 0) [
  | true ↦ λ e. absurd cc
  | false ↦ λ e. omega (arith, one_lf prefix e)
] h

-- the LFs of two parts
counted : (xs ys : List ℕ) → count_by is_lf (xs ++ ys) ≡ count_by is_lf xs + count_by is_lf ys
counted xs ys = sum_by-append (λ x. cond (is_lf x) 1 0) xs ys

-- whole lines have one LF each
count_lines : (ls : Lines) → AllByRecursion IsLine ls → count_by is_lf (concat ls) ≡ length ls
count_lines [] h = refl
count_lines (l ∷ ls) h =
    let s = h.0 in
    let line : count_by is_lf l ≡ 1 = ap (count_by is_lf) s.2 ∙ omega (arith, counted s.0 (10 ∷ []), one_lf s.0 s.1) in
    omega (arith, counted l (concat ls), line, count_lines ls h.1)

-- what stands before the rest of a text, of whole lines
before_rest : (text rest : List ℕ) (good : Lines) → lines_of text ≡ good ++ lines_of rest → text ≡ concat good ++ rest
before_rest text rest good e = sym (lines_concat text) ∙ ap concat e ∙ concat_append good (lines_of rest) ∙ ap (λ (x : List ℕ). concat good ++ x) (lines_concat rest)

-- whole lines before the rest of a text are its bytes up to there
pub cut_before : (text rest : List ℕ) (good : Lines) → lines_of text ≡ good ++ lines_of rest
    → (length rest ≤ length text) × (take (length text - length rest) text ≡ concat good)
cut_before text rest good e =
    let parts = before_rest text rest good e in
    let len : length text ≡ length (concat good) + length rest = ap length parts ∙ length-append (concat good) rest in
    let k : length text - length rest ≡ length (concat good) = omega arith in
    (omega arith, rw k (ap (take (length (concat good))) parts ∙ take_at (concat good) rest (length (concat good)) refl))

-- before the rest of a text there are as many LFs as whole lines
pub line_number : (text rest : List ℕ) (good : Lines) → AllByRecursion IsLine good → lines_of text ≡ good ++ lines_of rest
    → (length rest ≤ length text) × (count_by is_lf (take (length text - length rest) text) ≡ length good)
line_number text rest good h e =
    let cut = cut_before text rest good e in
    (cut.0, ap (count_by is_lf) cut.1 ∙ count_lines good h)
