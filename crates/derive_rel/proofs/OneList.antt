-- The rows that meet a condition make one list.
use Rattle.std.proofs.Common.{◌≡◌, ◌⊎◌, inl, inr, ℕ, zero, suc, ◌+◌, ◌<◌, ◌==◌, ◌&&◌, Bool, true, List, [], ◌∷◌, length, refl, sym, ap, subst, ◌∙◌, arith, slice_index_or}
use Rattle.std.specs.List.{AllByRecursion, Contains}
use Rattle.std.specs.Prelude.{if◌then◌else◌}
use Rattle.std.specs.Str.{bytes_eq}
use Rattle.std.proofs.lemmas.Bool.{and_parts, eqb-true}
use Rattle.std.proofs.lemmas.List.Elements.{All-get_or}
use Rattle.named.proofs.Lists.{each_weaker}
use Rattle.net_core.specs.Rels.{all_rels, rel_text}
use Rattle.net_core.specs.declared.rels.Rel.{Rel}
use Rattle.net_core.specs.declared.rels.Rel.TheVariants as rel
use Rattle.derive_rel.specs.Entailed.{AreAllRows, ComesBefore, StandsBefore, row_at}
use Rattle.derive_rel.specs.declared.all_rows.Row.{Row}

-- ---- the order of rows

-- the number of the first relation of a list with this text
abbrev place_of : List Rel → List ℕ → ℕ
place_of [] text = 0
place_of (r ∷ rels) text = if bytes_eq (rel_text r) text then 0 else suc (place_of rels text)

-- the number of a relation in the table of relations
abbrev number_of : Rel → ℕ
number_of r = place_of all_rels (rel_text r)

-- relations are numbered one after another
abbrev AreNumbered : ℕ → List Rel → Type 0
AreNumbered n [] = Unit {0}
AreNumbered n (r ∷ rels) = (number_of r ≡ n) × AreNumbered (n + 1) rels

numbered_at : (n : ℕ) (rels : List Rel) (k : ℕ) → AreNumbered n rels → k < length rels → number_of (slice_index_or rels k rel.Before) ≡ n + k
numbered_at n [] k are lt = absurd (omega (arith, lt))
numbered_at n (r ∷ rels) zero are lt = omega (arith, are.0)
numbered_at n (r ∷ rels) (suc k) are lt = let later = numbered_at (n + 1) rels k are.1 (omega (arith, lt)) in omega (arith, later)

-- a test of that
abbrev are_numbered : ℕ → List Rel → Bool
are_numbered n [] = true
are_numbered n (r ∷ rels) = number_of r == n && are_numbered (n + 1) rels

by_test : (n : ℕ) (rels : List Rel) → are_numbered n rels ≡ true → AreNumbered n rels
by_test n [] e = tt
by_test n (r ∷ rels) e = let both = and_parts (number_of r == n) (are_numbered (n + 1) rels) e in (eqb-true (number_of r) n both.0, by_test (n + 1) rels both.1)

-- the relations of the table are
all_numbered : AreNumbered 0 all_rels
all_numbered = by_test 0 all_rels refl

-- a relation that stands before another one has a smaller number
smaller : (r s : Rel) → StandsBefore r s → number_of r < number_of s
smaller r s (i, j, less, within, first, second) =
    let at_i = numbered_at 0 all_rels i all_numbered (omega (arith, less, within)) in
    let at_j = numbered_at 0 all_rels j all_numbered within in
    let is_i = sym (ap number_of first) ∙ at_i in
    let is_j = sym (ap number_of second) ∙ at_j in
    omega (arith, less, is_i, is_j)

-- the order of rows by numbers
abbrev Precedes : Row → Row → Type 0
Precedes x y = (x.a < y.a) ⊎ ((x.a ≡ y.a) × (x.b < y.b)) ⊎ ((x.a ≡ y.a) × (x.b ≡ y.b) × (number_of x.rel < number_of y.rel))

precedes : (x y : Row) → ComesBefore x y → Precedes x y
precedes x y (inl h) = inl h
precedes x y (inr (inl h)) = inr (inl h)
precedes x y (inr (inr h)) = inr (inr (h.0, h.1, smaller x.rel y.rel h.2))

-- no row precedes itself
not_itself : (x : Row) → Precedes x x → ⊥
not_itself x (inl h) = omega (arith, h)
not_itself x (inr (inl h)) = omega (arith, h.1)
not_itself x (inr (inr h)) = omega (arith, h.2)

in_turn : (x y z : Row) → Precedes x y → Precedes y z → Precedes x z
in_turn x y z (inl h) (inl k) = inl (omega (arith, h, k))
in_turn x y z (inl h) (inr (inl k)) = inl (omega (arith, h, k.0))
in_turn x y z (inl h) (inr (inr k)) = inl (omega (arith, h, k.0))
in_turn x y z (inr (inl h)) (inl k) = inl (omega (arith, h.0, k))
in_turn x y z (inr (inr h)) (inl k) = inl (omega (arith, h.0, k))
in_turn x y z (inr (inl h)) (inr (inl k)) = inr (inl (h.0 ∙ k.0, omega (arith, h.1, k.1)))
in_turn x y z (inr (inl h)) (inr (inr k)) = inr (inl (h.0 ∙ k.0, omega (arith, h.1, k.1)))
in_turn x y z (inr (inr h)) (inr (inl k)) = inr (inl (h.0 ∙ k.0, omega (arith, h.1, k.1)))
in_turn x y z (inr (inr h)) (inr (inr k)) = inr (inr (h.0 ∙ k.0, h.1 ∙ k.1, omega (arith, h.2, k.2)))

-- ---- sorted rows

-- each row precedes all after it
abbrev AreSorted : List Row → Type 0
AreSorted [] = Unit {0}
AreSorted (x ∷ xs) = AllByRecursion (Precedes x) xs × AreSorted xs

-- what precedes the first of some sorted rows precedes all
before_all : (x y : Row) (ys : List Row) → Precedes x y → AllByRecursion (Precedes y) ys → AllByRecursion (Precedes x) ys
before_all x y ys less all = each_weaker (Precedes y) (Precedes x) (λ z after. in_turn x y z less after) ys all

-- rows each of which comes before the next are sorted
sorted : (xs : List Row) → ((k : ℕ) → k + 1 < length xs → ComesBefore (row_at xs k) (row_at xs (k + 1))) → AreSorted xs
sorted [] next = tt
sorted (x ∷ []) next = (tt, tt)
sorted (x ∷ y ∷ xs) next =
    let rest = sorted (y ∷ xs) (λ k lt. subst (λ (n : ℕ). ComesBefore (row_at (y ∷ xs) k) (row_at (x ∷ y ∷ xs) n)) (after k) (next (suc k) (omega (arith, lt)))) in
    let first = precedes x y (next 0 (omega arith)) in
    ((first, before_all x y xs first rest.0), rest)
  where
    after : (k : ℕ) → suc k + 1 ≡ suc (k + 1)
    after k = omega arith

-- what holds of all rows holds of one of them
of_one : (P : Row → Type 0) (xs : List Row) (x : Row) → AllByRecursion P xs → Contains xs x → P x
of_one P [] x all (k, lt, e) = absurd (omega (arith, lt))
of_one P (y ∷ xs) x all (zero, lt, e) = subst P e all.0
of_one P (y ∷ xs) x all (suc k, lt, e) = of_one P xs x all.1 (k, omega (arith, lt), e)

-- a row of a list is the first, or one of the others
first_or_later : (y : Row) (ys : List Row) (x : Row) → Contains (y ∷ ys) x → (y ≡ x) ⊎ Contains ys x
first_or_later y ys x (zero, lt, e) = inl e
first_or_later y ys x (suc k, lt, e) = inr (k, omega (arith, lt), e)

-- each row of a list is in another one
abbrev AreIn : List Row → List Row → Type 0
AreIn xs ys = (x : Row) → Contains xs x → Contains ys x

-- the others of sorted rows that are in a list with the same first row are among the others
others_in : (x y : Row) (xs ys : List Row) → x ≡ y → AreSorted (x ∷ xs) → AreIn (x ∷ xs) (y ∷ ys) → AreIn xs ys
others_in x y xs ys same are into z (k, lt, e) = elim (first_or_later y ys z (into z (suc k, omega (arith, lt), e))) [
  | inl first ↦ absurd (not_itself x (subst (Precedes x) (sym (same ∙ first)) (of_one (Precedes x) xs z are.0 (k, lt, e))))
  | inr later ↦ later
]

-- sorted rows with the same members begin alike
same_first : (x y : Row) (xs ys : List Row) → AreSorted (x ∷ xs) → AreSorted (y ∷ ys) → AreIn (x ∷ xs) (y ∷ ys) → AreIn (y ∷ ys) (x ∷ xs) → x ≡ y
same_first x y xs ys left right into back = elim (first_or_later y ys x (into x (0, omega arith, refl))) [
  | inl e ↦ sym e
  | inr later ↦ elim (first_or_later x xs y (back y (0, omega arith, refl))) [
    | inl e ↦ e
    | inr too ↦ absurd (not_itself x (in_turn x y x (of_one (Precedes x) xs y left.0 too) (of_one (Precedes y) ys x right.0 later)))
  ]
]

-- sorted rows with the same members are the same
same_list : (xs ys : List Row) → AreSorted xs → AreSorted ys → AreIn xs ys → AreIn ys xs → xs ≡ ys
same_list [] [] left right into back = refl
same_list [] (y ∷ ys) left right into back = let none = back y (0, omega arith, refl) in absurd (omega (arith, none.1))
same_list (x ∷ xs) [] left right into back = let none = into x (0, omega arith, refl) in absurd (omega (arith, none.1))
same_list (x ∷ xs) (y ∷ ys) left right into back =
    let first = same_first x y xs ys left right into back in
    let rest = same_list xs ys left.1 right.1 (others_in x y xs ys first left into) (others_in y x ys xs (sym first) right back) in
    λ i. first i ∷ rest i

-- the rows that meet a condition make one list
pub one_list : (P : Row → Type 0) (xs ys : List Row) → AreAllRows P xs → AreAllRows P ys → xs ≡ ys
one_list P xs ys left right = same_list xs ys (sorted xs left.sorted) (sorted ys right.sorted)
    (λ x (k, lt, e). right.whole x (subst P e (All-get_or P xs k x lt left.right)))
    (λ x (k, lt, e). left.whole x (subst P e (All-get_or P ys k x lt right.right)))
