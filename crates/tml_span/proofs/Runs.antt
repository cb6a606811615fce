-- The longest prefix of one kind of bytes, and names.
use Rattle.std.proofs.Common.{one-add, subst, ◌≡◌, ℕ, ◌+◌, ◌≤◌, Bool, true, false, cond, List, [], ◌∷◌, ◌++◌, length, take, drop, refl, sym, ap, ◌∙◌, arith, Some, None, length-take}
use Rattle.std.proofs.lemmas.Bool.{and_parts}
use Rattle.std.proofs.lemmas.Option.{same_Some}
use Rattle.std.specs.List.{prefix_len, list_all}
use Rattle.std.proofs.lemmas.List.{take-append-drop, take_at, drop_at}
use Rattle.tml_span.specs.Bytes.{is_white, is_name_start, is_name_byte, is_name}
use Rattle.tml_span.specs.Reading.{run_at, after_white, name_at}

-- a test that held
pub when : {A : Type 0} (t : Bool) (x y : A) → t ≡ true → cond t x y ≡ x
when true x y e = refl
when false x y e = absurd cc

-- the bytes begin with none that passes
abbrev pub Not : (ℕ → Bool) → List ℕ → Type 0
Not p [] = Unit {0}
Not p (b ∷ bytes) = p b ≡ false

pub prefix_len_again : (p : ℕ → Bool) (xs ys : List ℕ) → list_all p xs ≡ true → Not p ys → prefix_len p (xs ++ ys) ≡ length xs
prefix_len_again p [] [] h n = refl
prefix_len_again p [] (y ∷ ys) h n = rw n refl
prefix_len_again p (x ∷ xs) ys h n = let s = and_parts (p x) (list_all p xs) h in rw (s.0, prefix_len_again p xs ys s.1 n) (omega arith)

pub prefix_passes : (p : ℕ → Bool) (xs : List ℕ) → list_all p (take (prefix_len p xs) xs) ≡ true
prefix_passes p [] = refl
prefix_passes p (x ∷ xs) = elim (p x) as (λ b. p x ≡ b → list_all p (take (cond b (1 + prefix_len p xs) 0) (x ∷ xs)) ≡ true) [
  | true ↦ λ e. rw (one-add (prefix_len p xs), e) (prefix_passes p xs)
  | false ↦ λ e. refl
] refl

pub rest_stops : (p : ℕ → Bool) (xs : List ℕ) → Not p (drop (prefix_len p xs) xs)
rest_stops p [] = tt
rest_stops p (x ∷ xs) = elim (p x) as (λ b. p x ≡ b → Not p (drop (cond b (1 + prefix_len p xs) 0) (x ∷ xs))) [
  | true ↦ λ e. rw (one-add (prefix_len p xs)) (rest_stops p xs)
  | false ↦ λ e. e
] refl

pub run_again : (p : ℕ → Bool) (xs ys : List ℕ) → list_all p xs ≡ true → Not p ys → run_at p (xs ++ ys) ≡ (xs, ys)
run_again p xs ys h n = rw (prefix_len_again p xs ys h n, take_at xs ys (length xs) refl, drop_at xs ys (length xs) refl) refl

pub white_again : (xs ys : List ℕ) → list_all is_white xs ≡ true → Not is_white ys → after_white (xs ++ ys) ≡ ys
white_again xs ys h n = rw (prefix_len_again is_white xs ys h n, drop_at xs ys (length xs) refl) refl

prefix_len-le : (p : ℕ → Bool) (xs : List ℕ) → prefix_len p xs ≤ length xs
prefix_len-le p [] = omega arith
prefix_len-le p (x ∷ xs) = elim (p x) as (λ b. cond b (1 + prefix_len p xs) 0 ≤ length (x ∷ xs)) [ true ↦ omega (arith, prefix_len-le p xs) | false ↦ omega arith ]

pub white_takes : (bytes : List ℕ) → (white : List ℕ) × (bytes ≡ white ++ after_white bytes) × (list_all is_white white ≡ true) × (prefix_len is_white bytes ≡ length white)
white_takes bytes =
    let n = prefix_len is_white bytes in
    (take n bytes, sym (take-append-drop n bytes), prefix_passes is_white bytes, omega (arith, length-take n bytes, prefix_len-le is_white bytes))

start_is_byte : (b : ℕ) → is_name_start b ≡ true → is_name_byte b ≡ true
start_is_byte b h = rw h refl

name_parts : (b : ℕ) (bs name rest : List ℕ) (s : Bool) → is_name_start b ≡ s → cond s (Some (run_at is_name_byte (b ∷ bs))) None ≡ Some (name, rest) → (b ∷ bs ≡ name ++ rest) × (is_name name ≡ true)
name_parts b bs name rest false h e = absurd cc
name_parts b bs name rest true h e =
    let n = prefix_len is_name_byte bs in
    let p : run_at is_name_byte (b ∷ bs) ≡ (name, rest) = same_Some _ _ e in
    let prefix : is_name (take (prefix_len is_name_byte (b ∷ bs)) (b ∷ bs)) ≡ true =
    rw (start_is_byte b h, one-add n, h) (prefix_passes is_name_byte bs) in
    subst (λ (q : List ℕ × List ℕ). (b ∷ bs ≡ q.0 ++ q.1) × (is_name q.0 ≡ true)) p (sym (take-append-drop (prefix_len is_name_byte (b ∷ bs)) (b ∷ bs)), prefix)

pub name_takes : (bytes name rest : List ℕ) → name_at bytes ≡ Some (name, rest) → (bytes ≡ name ++ rest) × (is_name name ≡ true)
unfolding name_at
name_takes [] name rest e = absurd cc
name_takes (b ∷ bs) name rest e = name_parts b bs name rest (is_name_start b) refl e

pub name_again : (name rest : List ℕ) → is_name name ≡ true → Not is_name_byte rest → name_at (name ++ rest) ≡ Some (name, rest)
unfolding name_at
name_again [] rest h n = absurd cc
name_again (b ∷ bs) rest h n =
    let s = and_parts (is_name_start b) (list_all is_name_byte bs) h in
    let all : list_all is_name_byte (b ∷ bs) ≡ true = rw (start_is_byte b s.0) s.1 in
    when (is_name_start b) _ _ s.0 ∙ ap (λ (q : List ℕ × List ℕ). Some q) (run_again is_name_byte (b ∷ bs) rest all n)
