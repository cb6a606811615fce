-- Counts of a duration are read in one way.
use Rattle.std.proofs.Common.{◌≡◌, ◌≢◌, ℕ, ◌+◌, ◌<◌, Bool, true, false, cond, ◌||◌, ◌==◌, if◌then◌else◌, List, [], ◌∷◌, ◌++◌, length, take, drop, append_assoc, one-add, refl, sym, ap, ◌∙◌, subst, arith}
use Rattle.std.proofs.lemmas.Bool.Decides.{nat_tests}
use Rattle.std.proofs.lemmas.List.{take_at, drop_at, take-append-drop}
use Rattle.std.specs.List.{prefix_len}
use Rattle.std.specs.Int.{IsInRange}
use Rattle.std.specs.Char.{is_ascii_digit, digit_value}
use Rattle.std.specs.Str.{byte}
use Rattle.std.specs.Str.Parse.{AllDigits, digits_value}
use Rattle.timex_value.specs.Durations.{CountThen}
use Rattle.timex_value.specs.Counts.{ReadsCount}
use Rattle.timex_value.specs.declared.length.Count.{Count}
use Rattle.timex_value.specs.declared.length.Count.TheVariants.{Absent, Number, Unknown}

-- a digit, by its value and by the test of a byte
digit_is : (d : ℕ) → digit_value d < 10 → is_ascii_digit d ≡ true
digit_is d h = grind (arith, nat_tests)

is_digit : (d : ℕ) → is_ascii_digit d ≡ true → digit_value d < 10
is_digit d e = grind (arith, nat_tests)

-- the longest prefix of digits has digits alone
pub digits_pass : (xs : List ℕ) → AllDigits 10 (take (prefix_len is_ascii_digit xs) xs)
digits_pass [] = tt
digits_pass (x ∷ xs) = elim (is_ascii_digit x) as (λ b. is_ascii_digit x ≡ b → AllDigits 10 (take (cond b (1 + prefix_len is_ascii_digit xs) 0) (x ∷ xs))) [
  | true ↦ λ e. rw (one-add (prefix_len is_ascii_digit xs)) (is_digit x e, digits_pass xs)
  | false ↦ λ e. tt
] refl

-- the longest prefix of digits ends at a byte that is none
pub digits_end : (xs : List ℕ) (u : ℕ) (rest : List ℕ) → AllDigits 10 xs → is_ascii_digit u ≡ false → prefix_len is_ascii_digit (xs ++ (u ∷ rest)) ≡ length xs
digits_end [] u rest h n = rw n refl
digits_end (x ∷ xs) u rest h n = rw (digit_is x h.0, digits_end xs u rest h.1 n) (omega arith)

number_then : (u n : ℕ) (text rest : List ℕ) (h : CountThen u (Number n) text rest) → text ≡ h.1.0 ++ (u ∷ rest)
number_then u n text rest h = h.2 ∙ (ap (λ (x : List ℕ). x ++ rest) h.1.4 ∙ append_assoc h.1.0 (u ∷ []) rest)

-- a number and its unit are the longest prefix of digits and what follows it
pub number_read : (u n : ℕ) (text rest : List ℕ) → is_ascii_digit u ≡ false → CountThen u (Number n) text rest
    → IsInRange 1 9 (prefix_len is_ascii_digit text) × (drop (prefix_len is_ascii_digit text) text ≡ u ∷ rest) × (n ≡ digits_value 10 (take (prefix_len is_ascii_digit text) text))
number_read u n text rest hu h =
    let digits = h.1.0 in
    let e = number_then u n text rest h in
    let len : prefix_len is_ascii_digit text ≡ length digits = ap (λ (x : List ℕ). prefix_len is_ascii_digit x) e ∙ digits_end digits u rest h.1.1 hu in
    rw (len, e, take_at digits (u ∷ rest) (length digits) refl, drop_at digits (u ∷ rest) (length digits) refl) (h.1.2, refl, h.1.3)

-- a longest prefix of digits, not too long, and the unit that follows it
pub number_is : (u n : ℕ) (text digits tail rest : List ℕ)
    → digits ≡ take (prefix_len is_ascii_digit text) text → tail ≡ drop (prefix_len is_ascii_digit text) text
    → IsInRange 1 9 (length digits) → n ≡ digits_value 10 digits → tail ≡ u ∷ rest
    → CountThen u (Number n) text rest
number_is u n text digits tail rest prefix after few value e =
    let whole : text ≡ digits ++ tail = rw (prefix, after) (sym (take-append-drop (prefix_len is_ascii_digit text) text)) in
    (digits ++ (u ∷ []), (digits, rw prefix (digits_pass text), few, value, refl), whole ∙ (ap (λ (x : List ℕ). digits ++ x) e ∙ sym (append_assoc digits (u ∷ []) rest)))

-- digits and X
abbrev pub is_mark : ℕ → Bool
is_mark b = is_ascii_digit b || (b == byte "X")

-- the first byte that is neither a digit nor X, and 0 where there is none
unfoldable pub unit_at : List ℕ → ℕ
unit_at [] = 0
unit_at (b ∷ text) = if is_mark b then unit_at text else b

unit_past : (digits text : List ℕ) → AllDigits 10 digits → unit_at (digits ++ text) ≡ unit_at text
unfolding unit_at
unit_past [] text h = refl
unit_past (d ∷ digits) text h = rw (digit_is d h.0) (unit_past digits text h.1)

unit_here : (u : ℕ) (rest : List ℕ) → is_mark u ≡ false → unit_at (u ∷ rest) ≡ u
unfolding unit_at
unit_here u rest h = rw h refl

unit_past_x : (text : List ℕ) → unit_at (byte "X" ∷ text) ≡ unit_at text
unfolding unit_at
unit_past_x text = refl

absent_then : (u : ℕ) (text rest : List ℕ) → CountThen u Absent text rest → text ≡ rest
absent_then u text rest h = h.2 ∙ ap (λ (x : List ℕ). x ++ rest) h.1

pub x_then : (u : ℕ) (text rest : List ℕ) → CountThen u Unknown text rest → text ≡ byte "X" ∷ u ∷ rest
x_then u text rest h = h.2 ∙ ap (λ (x : List ℕ). x ++ rest) h.1

-- a number or an X is known by its unit
number_unit : (u n : ℕ) (text rest : List ℕ) → is_mark u ≡ false → CountThen u (Number n) text rest → unit_at text ≡ u
number_unit u n text rest m h = ap unit_at (number_then u n text rest h) ∙ (unit_past h.1.0 (u ∷ rest) h.1.1 ∙ unit_here u rest m)

x_unit : (u : ℕ) (text rest : List ℕ) → is_mark u ≡ false → CountThen u Unknown text rest → unit_at text ≡ u
x_unit u text rest m h = ap unit_at (x_then u text rest h) ∙ (unit_past_x (u ∷ rest) ∙ unit_here u rest m)

-- before a count of one unit no other unit comes, unless it comes after it
pub unit_before : (u v : ℕ) (c : Count) (text rest : List ℕ) → is_mark u ≡ false → u ≢ v → CountThen u c text rest → unit_at rest ≢ v → unit_at text ≢ v
unit_before u v Absent text rest m other h end = λ e. end (ap unit_at (sym (absent_then u text rest h)) ∙ e)
unit_before u v (Number n) text rest m other h end = λ e. other (sym (number_unit u n text rest m h) ∙ e)
unit_before u v Unknown text rest m other h end = λ e. other (sym (x_unit u text rest m h) ∙ e)

-- a count is read so where its unit does not come again
pub reads_count : (u : ℕ) (c : Count) (text rest : List ℕ) → is_mark u ≡ false → CountThen u c text rest → unit_at rest ≢ u → ReadsCount u c text rest
reads_count u c text rest m h end = record {
  then = h;
  none = λ e.
      let same = ap unit_at (sym (absent_then u text rest (subst (λ x. CountThen u x text rest) e h))) in
      (λ n after k. end (same ∙ number_unit u n text after m k), λ after k. end (same ∙ x_unit u text after m k));
}

pub tail_is : {a b : ℕ} {xs ys : List ℕ} → (a ∷ xs) ≡ (b ∷ ys) → xs ≡ ys
tail_is e = cc

x_or_number : (u n : ℕ) (text r s : List ℕ) → is_ascii_digit u ≡ false → CountThen u (Number n) text r → CountThen u Unknown text s → ⊥
x_or_number u n text r s m h k =
    let p = number_read u n text r m h in
    let none : prefix_len is_ascii_digit text ≡ 0 = ap (λ (x : List ℕ). prefix_len is_ascii_digit x) (x_then u text s k) in
    omega arith

-- where no count is, there is none
absent_once : (u : ℕ) (d : Count) (text r s : List ℕ) → ReadsCount u Absent text r → CountThen u d text s → (Absent ≡ d) × (r ≡ s)
absent_once u Absent text r s h k = (refl, sym (absent_then u text r h.then) ∙ absent_then u text s k)
absent_once u (Number n) text r s h k = absurd ((h.none refl).0 n s k)
absent_once u Unknown text r s h k = absurd ((h.none refl).1 s k)

-- a count is read in one way
pub same_count : (u : ℕ) (c d : Count) (text r s : List ℕ) → is_ascii_digit u ≡ false → ReadsCount u c text r → ReadsCount u d text s → (c ≡ d) × (r ≡ s)
same_count u Absent d text r s n h k = absent_once u d text r s h k.then
same_count u (Number a) Absent text r s n h k = let e = absent_once u (Number a) text s r k h.then in (sym e.0, sym e.1)
same_count u Unknown Absent text r s n h k = let e = absent_once u Unknown text s r k h.then in (sym e.0, sym e.1)
same_count u (Number a) (Number b) text r s n h k =
    let p = number_read u a text r n h.then in
    let q = number_read u b text s n k.then in
    (ap Number (p.2 ∙ sym q.2), tail_is (sym p.1 ∙ q.1))
same_count u (Number a) Unknown text r s n h k = absurd (x_or_number u a text r s n h.then k.then)
same_count u Unknown (Number b) text r s n h k = absurd (x_or_number u b text s r n k.then h.then)
same_count u Unknown Unknown text r s n h k = (refl, tail_is (tail_is (sym (x_then u text r h.then) ∙ x_then u text s k.then)))
