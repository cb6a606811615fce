-- What is read of a line is what stands there, and what stands there is read.
use Rattle.std.proofs.Common.{◌≡◌, ℕ, ◌+◌, ◌%◌, ◌^◌, ◌<◌, Bool, true, false, cond, if◌then◌else◌, not, eqb, ltb, ◌&&◌, List, [], ◌∷◌, ◌++◌, length, take, drop, Option, Some, None, refl, sym, ap, subst, ◌∙◌, append_assoc, one-add, arith, rules, ◌⊎◌, inl, inr}
use Rattle.std.specs.Prelude.{decimal, option_map}
use Rattle.std.specs.List.{prefix_len, list_all}
use Rattle.std.specs.Str.{bytes_eq}
use Rattle.std.proofs.lemmas.Bool.{eqb-true, ltb-true, lt-ltb}
use Rattle.std.proofs.lemmas.Bool.Decides.{Decides-eqb}
use Rattle.std.proofs.lemmas.List.{take_at, drop_at, take-append-drop, append-nil}
use Rattle.std.proofs.lemmas.Fmt.{decimal_by_steps}
use Rattle.std.proofs.lemmas.Option.{cond_some}
use Rattle.std.proofs.lemmas.Slice.Eq.{starts_is, bytes_eq-Decides}
use Rattle.named.proofs.Lists.{all_append}
use Rattle.named.specs.Texts.{AreApart, named_of}
use Rattle.named.proofs.Tables.{found_has}
use Rattle.net_core.specs.Rels.{rel_text, all_rels}
use Rattle.net_core.specs.declared.rels.Rel.{Rel}
use Rattle.line_texts.specs.Words.{◌>>=◌, is_not, number, long_to, number_to, word_to, after, after_one, alone, one_of, two_of, two_to, relation_of, same_of}
use Rattle.line_texts.specs.Numbers.{IsNumber, IsPair, one_number, two_numbers, relation_line}
use Rattle.line_texts.proofs.Numbers.{some_bind, number_found, number_again}
use Rattle.std.specs.Option.{option_or}

-- ---- up to a byte

-- a larger byte differs
differs : (stop b : ℕ) → stop < b → is_not stop b ≡ true
differs stop b lt = elim (eqb b stop) as (λ t. eqb b stop ≡ t → not t ≡ true) [ true ↦ λ e. let same = eqb-true b stop e in absurd (omega arith) | false ↦ λ e. refl ] refl

-- a byte below the digits stands in no number
pub long_differ : (stop n : ℕ) → stop < 48 → n < 2 ^ 64 → list_all (is_not stop) (decimal n) ≡ true
long_differ stop n lt small = decimal_by_steps (λ n ds. list_all (is_not stop) ds ≡ true)
    (λ m h. rw (differs stop (48 + m) (omega arith)) refl)
    (λ m ds h k. all_append (is_not stop) ds ((48 + m % 10) ∷ []) k (rw (differs stop (48 + m % 10) (omega arith)) refl))
    n small

-- nor in a number below 2 ^ 32
pub digits_differ : (stop n : ℕ) → stop < 48 → IsNumber n → list_all (is_not stop) (decimal n) ≡ true
digits_differ stop n lt small = long_differ stop n lt (omega arith)

-- a prefix ends at the first byte that fails
prefix_again : (p : ℕ → Bool) (xs rest : List ℕ) (y : ℕ) → list_all p xs ≡ true → p y ≡ false → prefix_len p (xs ++ y ∷ rest) ≡ length xs
prefix_again p [] rest y h k = rw k refl
prefix_again p (x ∷ xs) rest y h k =
    elim (p x) as (λ b. (b && list_all p xs) ≡ true → cond b (1 + prefix_len p (xs ++ y ∷ rest)) 0 ≡ length (x ∷ xs)) [
      | true ↦ λ e. rw (prefix_again p xs rest y e k) (omega arith)
      | false ↦ λ e. absurd cc
    ] h

-- where something follows a byte, the byte is there
after_one_is : (stop : ℕ) (bytes rest : List ℕ) → after_one (drop (prefix_len (is_not stop) bytes) bytes) ≡ Some rest → drop (prefix_len (is_not stop) bytes) bytes ≡ stop ∷ rest
after_one_is stop [] rest e = absurd cc
after_one_is stop (b ∷ bytes) rest e =
    elim (eqb b stop) as (λ t. eqb b stop ≡ t → after_one (drop (cond (not t) (1 + prefix_len (is_not stop) bytes) 0) (b ∷ bytes)) ≡ Some rest → drop (cond (not t) (1 + prefix_len (is_not stop) bytes) 0) (b ∷ bytes) ≡ stop ∷ rest) [
      | true ↦ λ t e. let same = eqb-true b stop t in cc
      | false ↦ λ t e. rw (one-add (prefix_len (is_not stop) bytes)) (after_one_is stop bytes rest (rw (one-add (prefix_len (is_not stop) bytes)) at e))
    ] refl e

-- a byte does not differ from itself
stops : (stop : ℕ) → is_not stop stop ≡ false
stops stop = rw ((Decides-eqb stop stop).1 refl) refl

-- ---- the steps

-- a value that is there
abbrev one : {A : Type 0} → A → Option A
one x = Some x

-- there is one value
pub some_is : {A : Type 0} (x y : A) → one x ≡ one y → x ≡ y
some_is x y e = cc

-- a value made of another one
pub some_mapped : {A B : Type 0} (f : A → B) (o : Option A) (b : B) → option_map f o ≡ Some b → (a : A) × (o ≡ Some a) × (f a ≡ b)
some_mapped f (Some a) b e = (a, refl, some_is (f a) b e)
some_mapped f None b e = absurd cc

-- a value of one of two
pub either : {A : Type 0} (o p : Option A) (a : A) → option_or o p ≡ Some a → (o ≡ Some a) ⊎ (p ≡ Some a)
either (Some b) p a e = inl e
either None p a e = inr e

-- a value with nothing after it
pub alone_is : {A : Type 0} (a b : A) (rest : List ℕ) → alone a rest ≡ Some b → (a ≡ b) × (rest ≡ [])
alone_is a b [] e = (some_is a b e, refl)
alone_is a b (x ∷ rest) e = absurd cc

-- what follows a keyword follows it
pub after_found : (keyword bytes rest : List ℕ) → after keyword bytes ≡ Some rest → bytes ≡ keyword ++ rest
unfolding after
after_found keyword bytes rest e =
    let g = cond_some _ (drop (length keyword) bytes) rest e in
    rw (← g.1) ((starts_is Decides-eqb bytes keyword _ refl).0 g.0)

-- what follows a keyword is found
pub after_again : (keyword rest : List ℕ) → after keyword (keyword ++ rest) ≡ Some rest
unfolding after
after_again keyword rest =
    rw ((starts_is Decides-eqb (keyword ++ rest) keyword _ refl).1 rest refl, drop_at keyword rest (length keyword) refl) refl

-- a number that is read up to a byte stands there
pub long_to_found : (stop : ℕ) (bytes : List ℕ) (n : ℕ) (rest : List ℕ) → long_to stop bytes ≡ Some (n, rest) → (bytes ≡ decimal n ++ stop ∷ rest) × (n < 2 ^ 64)
unfolding long_to
long_to_found stop bytes n rest e =
    let k = prefix_len (is_not stop) bytes in
    let a = some_bind (number (take k bytes)) (λ n. after_one (drop k bytes) >>= λ rest. Some (n, rest)) (n, rest) e in
    let b = some_bind (after_one (drop k bytes)) (λ rest. Some (a.0, rest)) (n, rest) a.2 in
    let f = number_found (take k bytes) a.0 a.1 in
    let same = some_is (a.0, b.0) (n, rest) b.2 in
    let whole : bytes ≡ decimal a.0 ++ stop ∷ b.0 = sym (take-append-drop k bytes) ∙ ap (λ (x : List ℕ). x ++ drop k bytes) (sym f.0) ∙ ap (λ (x : List ℕ). decimal a.0 ++ x) (after_one_is stop bytes b.0 b.1) in
    subst (λ (x : ℕ × List ℕ). (bytes ≡ decimal x.0 ++ stop ∷ x.1) × (x.0 < 2 ^ 64)) same (whole, f.1)

-- a number that stands there is read
pub long_to_again : (stop n : ℕ) (rest : List ℕ) → stop < 48 → n < 2 ^ 64 → long_to stop (decimal n ++ stop ∷ rest) ≡ Some (n, rest)
unfolding long_to
long_to_again stop n rest lt small =
    rw (prefix_again (is_not stop) (decimal n) rest stop (long_differ stop n lt small) (stops stop), take_at (decimal n) (stop ∷ rest) (length (decimal n)) refl, drop_at (decimal n) (stop ∷ rest) (length (decimal n)) refl, number_again n small) refl

-- the same of numbers below 2 ^ 32
number_to_found : (stop : ℕ) (bytes : List ℕ) (n : ℕ) (rest : List ℕ) → number_to stop bytes ≡ Some (n, rest) → (bytes ≡ decimal n ++ stop ∷ rest) × IsNumber n
unfolding number_to
number_to_found stop bytes n rest e =
    let a = some_bind (long_to stop bytes) (λ n. if ltb n.0 (2 ^ 32) then Some (n.0, n.1) else None) (n, rest) e in
    let g = cond_some (ltb a.0.0 (2 ^ 32)) (a.0.0, a.0.1) (n, rest) a.2 in
    let small : IsNumber a.0.0 = ltb-true a.0.0 (2 ^ 32) g.0 in
    subst (λ (x : ℕ × List ℕ). (bytes ≡ decimal x.0 ++ stop ∷ x.1) × IsNumber x.0) g.1 ((long_to_found stop bytes a.0.0 a.0.1 a.1).0, small)

-- and one of them that stands there is read
number_to_again : (stop n : ℕ) (rest : List ℕ) → stop < 48 → IsNumber n → number_to stop (decimal n ++ stop ∷ rest) ≡ Some (n, rest)
unfolding number_to
number_to_again stop n rest lt small = rw (long_to_again stop n rest lt (omega arith), lt-ltb n (2 ^ 32) small) refl

-- a word that is read up to a byte stands there
word_found : (stop : ℕ) (bytes word rest : List ℕ) → word_to stop bytes ≡ Some (word, rest) → bytes ≡ word ++ stop ∷ rest
unfolding word_to
word_found stop bytes word rest e =
    let k = prefix_len (is_not stop) bytes in
    let a = some_bind (after_one (drop k bytes)) (λ rest. Some (take k bytes, rest)) (word, rest) e in
    let same = some_is (take k bytes, a.0) (word, rest) a.2 in
    let whole : bytes ≡ take k bytes ++ stop ∷ a.0 = sym (take-append-drop k bytes) ∙ ap (λ (x : List ℕ). take k bytes ++ x) (after_one_is stop bytes a.0 a.1) in
    subst (λ (x : List ℕ × List ℕ). bytes ≡ x.0 ++ stop ∷ x.1) same whole

-- a word that stands there is read
word_again : (stop : ℕ) (word rest : List ℕ) → list_all (is_not stop) word ≡ true → word_to stop (word ++ stop ∷ rest) ≡ Some (word, rest)
unfolding word_to
word_again stop word rest h =
    rw (prefix_again (is_not stop) word rest stop h (stops stop), take_at word (stop ∷ rest) (length word) refl, drop_at word (stop ∷ rest) (length word) refl) refl

-- ---- whole lines

-- a form of lines: the line of each value that fits, and no other line
pub record IsForm {A : Type 0} (text : A → List ℕ) (Fits : A → Type 0) (form : List ℕ → Option A) : Type 0 where
  pub again : (a : A) → Fits a → form (text a) ≡ Some a
  pub found : (l : List ℕ) (a : A) → form l ≡ Some a → (text a ≡ l) × Fits a

-- a keyword, and what follows it: a number and LF
one_grouped : (keyword : List ℕ) (n : ℕ) → one_number keyword n ≡ keyword ++ (decimal n ++ 10 ∷ [])
one_grouped keyword n = append_assoc keyword (decimal n) (10 ∷ [])

-- lines of a keyword and one number
pub one_form : (keyword : List ℕ) → IsForm (one_number keyword) IsNumber (one_of keyword)
unfolding one_of
one_form keyword = record {
  again = λ n small. ap (one_of keyword) (one_grouped keyword n) ∙ rw (after_again keyword (decimal n ++ 10 ∷ []), number_to_again 10 n [] (omega arith) small) refl;
  found = λ l n e.
      let a = some_bind (after keyword l) (λ rest. number_to 10 rest >>= λ n. alone n.0 n.1) n e in
      let b = some_bind (number_to 10 a.0) (λ n. alone n.0 n.1) n a.2 in
      let c = alone_is b.0.0 n b.0.1 b.2 in
      let f = number_to_found 10 a.0 b.0.0 b.0.1 b.1 in
      let k = after_found keyword l a.0 a.1 in
      let whole : l ≡ keyword ++ (decimal b.0.0 ++ 10 ∷ []) = k ∙ ap (λ (x : List ℕ). keyword ++ x) (f.0 ∙ ap (λ (x : List ℕ). decimal b.0.0 ++ 10 ∷ x) c.1) in
      subst (λ (m : ℕ). (one_number keyword m ≡ l) × IsNumber m) c.0 (one_grouped keyword b.0.0 ∙ sym whole, f.1);
}

-- the line of a keyword and a pair
abbrev pub pair_line : List ℕ → ℕ × ℕ → List ℕ
pair_line keyword p = two_numbers keyword p.0 p.1

-- what follows a keyword, two numbers and LF
two_before : (keyword : List ℕ) (m n : ℕ) (rest : List ℕ) → two_numbers keyword m n ++ rest ≡ keyword ++ (decimal m ++ 32 ∷ (decimal n ++ 10 ∷ rest))
two_before keyword m n rest = simp append_assoc

-- two numbers that stand after a keyword are read
pub two_to_again : (keyword : List ℕ) (p : ℕ × ℕ) (rest : List ℕ) → IsPair p → two_to keyword (pair_line keyword p ++ rest) ≡ Some (p, rest)
unfolding two_to
two_to_again keyword p rest small = ap (two_to keyword) (two_before keyword p.0 p.1 rest) ∙ rw (after_again keyword (decimal p.0 ++ 32 ∷ (decimal p.1 ++ 10 ∷ rest)), number_to_again 32 p.0 (decimal p.1 ++ 10 ∷ rest) (omega arith) small.0, number_to_again 10 p.1 rest (omega arith) small.1) refl

-- two numbers that are read after a keyword stand there
pub two_to_found : (keyword bytes : List ℕ) (p : ℕ × ℕ) (rest : List ℕ) → two_to keyword bytes ≡ Some (p, rest) → (pair_line keyword p ++ rest ≡ bytes) × IsPair p
unfolding two_to
two_to_found keyword bytes p rest e =
    let a = some_bind (after keyword bytes) (λ rest. number_to 32 rest >>= λ m. number_to 10 m.1 >>= λ n. Some ((m.0, n.0), n.1)) (p, rest) e in
    let b = some_bind (number_to 32 a.0) (λ m. number_to 10 m.1 >>= λ n. Some ((m.0, n.0), n.1)) (p, rest) a.2 in
    let c = some_bind (number_to 10 b.0.1) (λ n. Some ((b.0.0, n.0), n.1)) (p, rest) b.2 in
    let same = some_is ((b.0.0, c.0.0), c.0.1) (p, rest) c.2 in
    let f = number_to_found 32 a.0 b.0.0 b.0.1 b.1 in
    let g = number_to_found 10 b.0.1 c.0.0 c.0.1 c.1 in
    let whole : bytes ≡ keyword ++ (decimal b.0.0 ++ 32 ∷ (decimal c.0.0 ++ 10 ∷ c.0.1)) = after_found keyword bytes a.0 a.1 ∙ ap (λ (x : List ℕ). keyword ++ x) (f.0 ∙ ap (λ (x : List ℕ). decimal b.0.0 ++ 32 ∷ x) g.0) in
    subst (λ (q : (ℕ × ℕ) × List ℕ). (pair_line keyword q.0 ++ q.1 ≡ bytes) × IsPair q.0) same (two_before keyword b.0.0 c.0.0 c.0.1 ∙ sym whole, (f.1, g.1))

-- a pair of numbers, and what follows it
abbrev pair_then : ℕ → ℕ → List ℕ → Option ((ℕ × ℕ) × List ℕ)
pair_then m n rest = Some ((m, n), rest)

-- the second number of a pair, and what follows it
abbrev second_then : ℕ → Option (ℕ × List ℕ) → Option ((ℕ × ℕ) × List ℕ)
second_then m second = second >>= λ n. pair_then m n.0 n.1

-- the second number of a pair, with nothing after it
abbrev second_alone : ℕ → Option (ℕ × List ℕ) → Option (ℕ × ℕ)
second_alone m second = second >>= λ n. alone (m, n.0) n.1

-- a pair, with nothing after it
abbrev pair_alone : Option ((ℕ × ℕ) × List ℕ) → Option (ℕ × ℕ)
pair_alone pair = pair >>= λ x. alone x.0 x.1

-- a line of two numbers has nothing after them
pub two_of_is : (keyword line : List ℕ) → two_of keyword line ≡ pair_alone (two_to keyword line)
unfolding two_of two_to
two_of_is keyword line =
    elim (after keyword line) as (λ o. (o >>= λ rest. number_to 32 rest >>= λ m. second_alone m.0 (number_to 10 m.1)) ≡ pair_alone (o >>= λ rest. number_to 32 rest >>= λ m. second_then m.0 (number_to 10 m.1))) [
      | None ↦ refl
      | Some rest ↦ elim (number_to 32 rest) as (λ o. (o >>= λ m. second_alone m.0 (number_to 10 m.1)) ≡ pair_alone (o >>= λ m. second_then m.0 (number_to 10 m.1))) [
        | None ↦ refl
        | Some m ↦ elim (number_to 10 m.1) as (λ o. second_alone m.0 o ≡ pair_alone (second_then m.0 o)) [ None ↦ refl | Some n ↦ refl ]
      ]
    ]

-- lines of a keyword and two numbers
pub two_form : (keyword : List ℕ) → IsForm (pair_line keyword) IsPair (two_of keyword)
two_form keyword = record {
  again = λ p small.
      let whole : two_to keyword (pair_line keyword p) ≡ Some (p, []) = ap (two_to keyword) (sym (append-nil (pair_line keyword p))) ∙ two_to_again keyword p [] small in
      two_of_is keyword (pair_line keyword p) ∙ rw whole refl;
  found = λ l p e.
      let a = some_bind (two_to keyword l) (λ x. alone x.0 x.1) p (sym (two_of_is keyword l) ∙ e) in
      let b = alone_is a.0.0 p a.0.1 a.2 in
      let f = two_to_found keyword l a.0.0 a.0.1 a.1 in
      let whole : pair_line keyword a.0.0 ≡ l = sym (append-nil (pair_line keyword a.0.0)) ∙ ap (λ (x : List ℕ). pair_line keyword a.0.0 ++ x) (sym b.1) ∙ f.0 in
      subst (λ (q : ℕ × ℕ). (pair_line keyword q ≡ l) × IsPair q) b.0 (whole, f.1);
}

-- each relation is found by its text
rels : AreApart rel_text all_rels
rels = search rules

-- no relation has a space in its text
no_space : (r : Rel) → list_all (is_not 32) (rel_text r) ≡ true
no_space r = search rules

-- the line of a keyword and a relation between two intervals
abbrev pub between_line : List ℕ → ℕ × Rel × ℕ → List ℕ
between_line keyword x = relation_line keyword x.0 x.1 x.2

-- the intervals can stand in a text
abbrev pub AreIntervals : ℕ × Rel × ℕ → Type 0
AreIntervals x = IsNumber x.0 × IsNumber x.2

-- a keyword, and what follows it: a number, a relation, a number and LF
relation_grouped : (keyword : List ℕ) (a : ℕ) (r : Rel) (b : ℕ) → relation_line keyword a r b ≡ keyword ++ (decimal a ++ 32 ∷ (rel_text r ++ 32 ∷ (decimal b ++ 10 ∷ [])))
relation_grouped keyword a r b = simp append_assoc

-- lines of a keyword and a relation between two intervals
pub relation_form : (keyword : List ℕ) → IsForm (between_line keyword) AreIntervals (relation_of keyword)
unfolding relation_of
relation_form keyword = record {
  again = λ x small.
      let last = decimal x.2 ++ 10 ∷ [] in
      ap (relation_of keyword) (relation_grouped keyword x.0 x.1 x.2) ∙ rw (after_again keyword (decimal x.0 ++ 32 ∷ (rel_text x.1 ++ 32 ∷ last)), number_to_again 32 x.0 (rel_text x.1 ++ 32 ∷ last) (omega arith) small.0, word_again 32 (rel_text x.1) last (no_space x.1), rels x.1, number_to_again 10 x.2 [] (omega arith) small.1) refl;
  found = λ l x e.
      let p = some_bind (after keyword l) (λ rest. number_to 32 rest >>= λ a. word_to 32 a.1 >>= λ word. named_of rel_text all_rels word.0 >>= λ r. number_to 10 word.1 >>= λ b. alone (a.0, r, b.0) b.1) x e in
      let a = some_bind (number_to 32 p.0) (λ a. word_to 32 a.1 >>= λ word. named_of rel_text all_rels word.0 >>= λ r. number_to 10 word.1 >>= λ b. alone (a.0, r, b.0) b.1) x p.2 in
      let w = some_bind (word_to 32 a.0.1) (λ word. named_of rel_text all_rels word.0 >>= λ r. number_to 10 word.1 >>= λ b. alone (a.0.0, r, b.0) b.1) x a.2 in
      let r = some_bind (named_of rel_text all_rels w.0.0) (λ r. number_to 10 w.0.1 >>= λ b. alone (a.0.0, r, b.0) b.1) x w.2 in
      let b = some_bind (number_to 10 w.0.1) (λ b. alone (a.0.0, r.0, b.0) b.1) x r.2 in
      let d = alone_is (a.0.0, r.0, b.0.0) x b.0.1 b.2 in
      let fa = number_to_found 32 p.0 a.0.0 a.0.1 a.1 in
      let fw = word_found 32 a.0.1 w.0.0 w.0.1 w.1 in
      let fr = found_has rel_text all_rels w.0.0 r.0 r.1 in
      let fb = number_to_found 10 w.0.1 b.0.0 b.0.1 b.1 in
      let third : w.0.1 ≡ decimal b.0.0 ++ 10 ∷ [] = fb.0 ∙ ap (λ (x : List ℕ). decimal b.0.0 ++ 10 ∷ x) d.1 in
      let second : a.0.1 ≡ rel_text r.0 ++ 32 ∷ (decimal b.0.0 ++ 10 ∷ []) = fw ∙ ap (λ (x : List ℕ). x ++ 32 ∷ w.0.1) (sym fr) ∙ ap (λ (x : List ℕ). rel_text r.0 ++ 32 ∷ x) third in
      let whole : l ≡ keyword ++ (decimal a.0.0 ++ 32 ∷ (rel_text r.0 ++ 32 ∷ (decimal b.0.0 ++ 10 ∷ []))) = after_found keyword l p.0 p.1 ∙ ap (λ (x : List ℕ). keyword ++ x) (fa.0 ∙ ap (λ (x : List ℕ). decimal a.0.0 ++ 32 ∷ x) second) in
      subst (λ (y : ℕ × Rel × ℕ). (between_line keyword y ≡ l) × AreIntervals y) d.0 (relation_grouped keyword a.0.0 r.0 b.0.0 ∙ sym whole, (fa.1, fb.1));
}

-- one line alone
pub same_form : (text : List ℕ) → IsForm (λ (u : Unit {0}). text) (λ u. Unit {0}) (same_of text)
same_form text = record {
  again = λ u fits. rw ((bytes_eq-Decides text text).1 refl) refl;
  found = λ l u e. let g = cond_some (bytes_eq l text) tt u e in (sym ((bytes_eq-Decides l text).0 g.0), tt);
}
