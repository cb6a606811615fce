-- Seconds that are read of a line are those that stand there, and what stands there is read.
use Rattle.std.proofs.Common.{◌≡◌, ℕ, zero, suc, ◌^◌, ◌<◌, true, false, cond, eqb, ltb, not, ◌&&◌, ℤ, pos, negsuc, List, [], ◌∷◌, ◌++◌, length, Option, Some, refl, sym, ap, subst, ◌∙◌, append_assoc, arith}
use Rattle.std.specs.Prelude.{codes, decimal}
use Rattle.std.specs.Fmt.{signed_decimal}
use Rattle.std.specs.List.{list_all}
use Rattle.std.proofs.lemmas.Bool.{eqb-true, ltb-true, lt-ltb}
use Rattle.std.proofs.lemmas.Fmt.{decimal_nonempty}
use Rattle.std.proofs.lemmas.Option.{cond_some}
use Rattle.line_texts.specs.Words.{◌>>=◌, after, alone, is_not, long_to}
use Rattle.line_texts.proofs.Numbers.{some_bind}
use Rattle.line_texts.proofs.WordLaws.{IsForm, after_again, after_found, alone_is, long_differ, long_to_again, long_to_found, some_is}
use Rattle.seconds_format.specs.Texts.{IsLong, IsLongPair, seconds_at_line}
use Rattle.seconds_format.specs.Words.{made_by, pair_of, second_before, second_of, second_to}

-- ---- one second

-- a number that is not too large is a second
second_of_again : (n : ℕ) → n < 2 ^ 63 → second_of n ≡ Some (pos n)
unfolding second_of
second_of_again n small = rw (lt-ltb n (2 ^ 63) small) refl

-- and no other number is
second_of_found : (n : ℕ) (z : ℤ) → second_of n ≡ Some z → (pos n ≡ z) × (n < 2 ^ 63)
unfolding second_of
second_of_found n z e = let g = cond_some (ltb n (2 ^ 63)) (pos n) z e in (g.1, ltb-true n (2 ^ 63) g.0)

-- a second before second 0 is so far before it
second_before_again : (n : ℕ) → n < 2 ^ 63 → second_before (suc n) ≡ Some (negsuc n)
unfolding second_before
second_before_again n small = rw (lt-ltb n (2 ^ 63) small) refl

-- a second that is so far before second 0 is before it
second_before_found : (n : ℕ) (z : ℤ) → second_before n ≡ Some z → (k : ℕ) × (n ≡ suc k) × (negsuc k ≡ z) × (k < 2 ^ 63)
unfolding second_before
second_before_found zero z e = absurd cc
second_before_found (suc n) z e = let g = cond_some (ltb n (2 ^ 63)) (negsuc n) z e in (n, refl, g.1, ltb-true n (2 ^ 63) g.0)

-- a second that is made of a number, and what follows it
made_found : (make : ℕ → Option ℤ) (read : Option (ℕ × List ℕ)) (z : ℤ) (rest : List ℕ) → made_by make read ≡ Some (z, rest) → (n : ℕ) × (read ≡ Some (n, rest)) × (make n ≡ Some z)
made_found make read z rest e =
    let a = some_bind read (λ n. make n.0 >>= λ second. Some (second, n.1)) (z, rest) e in
    let b = some_bind (make a.0.0) (λ second. Some (second, a.0.1)) (z, rest) a.2 in
    let same = some_is (b.0, a.0.1) (z, rest) b.2 in
    (a.0.0, a.1 ∙ ap (λ (x : ℤ × List ℕ). Some (a.0.0, x.1)) same, b.1 ∙ ap (λ (x : ℤ × List ℕ). Some x.0) same)

-- ---- up to a byte

-- without a sign a second is a number
unsigned : (stop : ℕ) (word tail : List ℕ) → 0 < length word → list_all (is_not 45) word ≡ true → second_to stop (word ++ tail) ≡ made_by second_of (long_to stop (word ++ tail))
unfolding second_to
unsigned stop [] tail some h = absurd (omega arith)
unsigned stop (b ∷ word) tail some h =
    elim (eqb b 45) as (λ t. (not t && list_all (is_not 45) word) ≡ true → cond t (made_by second_before (long_to stop (word ++ tail))) (made_by second_of (long_to stop (b ∷ (word ++ tail)))) ≡ made_by second_of (long_to stop (b ∷ (word ++ tail)))) [
      | true ↦ λ e. absurd cc
      | false ↦ λ e. refl
    ] h

-- a second that stands there is read
second_to_again : (stop : ℕ) (z : ℤ) (rest : List ℕ) → stop < 45 → IsLong z → second_to stop (signed_decimal z ++ stop ∷ rest) ≡ Some (z, rest)
unfolding second_to
second_to_again stop (pos n) rest lt fits =
    let small : n < 2 ^ 63 = fits.sfits in
    let digits = long_differ 45 n (omega arith) (omega arith) in
    unsigned stop (decimal n) (stop ∷ rest) (decimal_nonempty n (omega arith)) digits ∙ rw (long_to_again stop n rest (omega arith) (omega arith), second_of_again n small) refl
second_to_again stop (negsuc n) rest lt fits =
    let small : n < 2 ^ 63 = fits.sfits in
    rw (long_to_again stop (suc n) rest (omega arith) (omega arith), second_before_again n small) refl

-- a second stands before a byte, and this follows the byte
abbrev StandsAt : ℕ → List ℕ → ℤ → List ℕ → Type 0
StandsAt stop bytes z rest = (bytes ≡ signed_decimal z ++ stop ∷ rest) × IsLong z

-- a second before second 0 that is read stands there
signed_found : (stop b : ℕ) (bytes : List ℕ) (z : ℤ) (rest : List ℕ) → b ≡ 45 → made_by second_before (long_to stop bytes) ≡ Some (z, rest) → StandsAt stop (b ∷ bytes) z rest
signed_found stop b bytes z rest sign e =
    let m = made_found second_before (long_to stop bytes) z rest e in
    let f = long_to_found stop bytes m.0 rest m.1 in
    let k = second_before_found m.0 z m.2 in
    let whole : b ∷ bytes ≡ 45 ∷ (decimal (suc k.0) ++ stop ∷ rest) = λ i. sign i ∷ (f.0 ∙ ap (λ (n : ℕ). decimal n ++ stop ∷ rest) k.1) i in
    subst (λ (y : ℤ). StandsAt stop (b ∷ bytes) y rest) k.2 (whole, record { sfits = k.3 })

-- so does one from second 0 on
unsigned_found : (stop : ℕ) (bytes : List ℕ) (z : ℤ) (rest : List ℕ) → made_by second_of (long_to stop bytes) ≡ Some (z, rest) → StandsAt stop bytes z rest
unsigned_found stop bytes z rest e =
    let m = made_found second_of (long_to stop bytes) z rest e in
    let f = long_to_found stop bytes m.0 rest m.1 in
    let k = second_of_found m.0 z m.2 in
    subst (λ (y : ℤ). StandsAt stop bytes y rest) k.0 (f.0, record { sfits = k.1 })

-- a second that is read up to a byte stands there
second_to_found : (stop : ℕ) (bytes : List ℕ) (z : ℤ) (rest : List ℕ) → second_to stop bytes ≡ Some (z, rest) → StandsAt stop bytes z rest
unfolding second_to
second_to_found stop [] z rest e = absurd cc
second_to_found stop (b ∷ bytes) z rest e =
    elim (eqb b 45) as (λ t. eqb b 45 ≡ t → cond t (made_by second_before (long_to stop bytes)) (made_by second_of (long_to stop (b ∷ bytes))) ≡ Some (z, rest) → StandsAt stop (b ∷ bytes) z rest) [
      | true ↦ λ t read. signed_found stop b bytes z rest (eqb-true b 45 t) read
      | false ↦ λ t read. unsigned_found stop (b ∷ bytes) z rest read
    ] refl e

-- ---- the seconds of an interval

-- a keyword, and what follows it: a second, a space, a second and LF
at_grouped : (pair : ℤ × ℤ) → seconds_at_line pair ≡ codes "at " ++ (signed_decimal pair.0 ++ 32 ∷ (signed_decimal pair.1 ++ 10 ∷ []))
at_grouped pair = simp append_assoc

-- lines of the seconds of an interval
pub pair_form : IsForm seconds_at_line IsLongPair pair_of
unfolding pair_of
pair_form = record {
  again = λ p fits. ap pair_of (at_grouped p) ∙ rw (after_again (codes "at ") (signed_decimal p.0 ++ 32 ∷ (signed_decimal p.1 ++ 10 ∷ [])), second_to_again 32 p.0 (signed_decimal p.1 ++ 10 ∷ []) (omega arith) fits.0, second_to_again 10 p.1 [] (omega arith) fits.1) refl;
  found = λ l p e.
      let a = some_bind (after (codes "at ") l) (λ rest. second_to 32 rest >>= λ start. second_to 10 start.1 >>= λ finish. alone (start.0, finish.0) finish.1) p e in
      let b = some_bind (second_to 32 a.0) (λ start. second_to 10 start.1 >>= λ finish. alone (start.0, finish.0) finish.1) p a.2 in
      let c = some_bind (second_to 10 b.0.1) (λ finish. alone (b.0.0, finish.0) finish.1) p b.2 in
      let d = alone_is (b.0.0, c.0.0) p c.0.1 c.2 in
      let f = second_to_found 32 a.0 b.0.0 b.0.1 b.1 in
      let g = second_to_found 10 b.0.1 c.0.0 c.0.1 c.1 in
      let second : b.0.1 ≡ signed_decimal c.0.0 ++ 10 ∷ [] = g.0 ∙ ap (λ (x : List ℕ). signed_decimal c.0.0 ++ 10 ∷ x) d.1 in
      let whole : l ≡ codes "at " ++ (signed_decimal b.0.0 ++ 32 ∷ (signed_decimal c.0.0 ++ 10 ∷ [])) = after_found (codes "at ") l a.0 a.1 ∙ ap (λ (x : List ℕ). codes "at " ++ x) (f.0 ∙ ap (λ (x : List ℕ). signed_decimal b.0.0 ++ 32 ∷ x) second) in
      subst (λ (q : ℤ × ℤ). (seconds_at_line q ≡ l) × IsLongPair q) d.0 (at_grouped (b.0.0, c.0.0) ∙ sym whole, (f.1, g.1));
}
