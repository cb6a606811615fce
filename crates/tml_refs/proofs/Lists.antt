-- Lists: what agrees pair by pair, what passes a test, and how many pass it.
use Rattle.std.proofs.Common.{◌≡◌, ℕ, ◌+◌, ◌≤◌, Bool, true, false, cond, ◌||◌, List, [], ◌∷◌, ◌++◌, length, refl, sym, ap, subst, ◌∙◌, append_assoc, arith, Option, Some}
use Rattle.std.specs.List.{All, AllZip, list_any, count_by, cons_option, filter_map, slice_get}
use Rattle.std.proofs.lemmas.List.{append-nil}
use Rattle.std.proofs.lemmas.List.Elements.{All-cons, All-nil, filter_map-append}
use Rattle.std.proofs.lemmas.List.Sums.{sum_by-append}

-- ---- pairs

-- each element of the second list has one of the first
pub all_paired : {A B : Type 0} (R : A → B → Type 0) (xs : List A) (ys : List B) → AllZip R xs ys → All (λ y. (x : A) × R x y) ys
all_paired R [] [] h = All-nil _
all_paired R [] (y ∷ ys) h = absurd h
all_paired R (x ∷ xs) [] h = All-nil _
all_paired {A} R (x ∷ xs) (y ∷ ys) h = All-cons (λ y. (x : A) × R x y) y ys (x, h.0) (all_paired R xs ys h.1)

-- ---- tests

-- a test passes at an element inside
pub any_inside : {A : Type 0} (p : A → Bool) (before after : List A) (x : A) → p x ≡ true → list_any p (before ++ x ∷ after) ≡ true
any_inside p [] after x h = ap (λ (b : Bool). b || list_any p after) h
any_inside p (b ∷ before) after x h = elim (p b) as (λ t. (t || list_any p (before ++ x ∷ after)) ≡ true) [ true ↦ refl | false ↦ any_inside p before after x h ]

-- an element inside that passes a test
pub record PassesAt {A : Type 0} (p : A → Bool) (xs : List A) : Type 0 where
  pub before : List A
  pub element : A
  pub after : List A
  pub whole : xs ≡ before ++ element ∷ after
  pub passes : p element ≡ true

passes_by : {A : Type 0} (p : A → Bool) (x : A) (xs : List A) (b : Bool) → p x ≡ b → (b || list_any p xs) ≡ true → (list_any p xs ≡ true → PassesAt p xs) → PassesAt p (x ∷ xs)
passes_by p x xs true e h rest = record { before = []; element = x; after = xs; whole = refl; passes = e }
passes_by {A} p x xs false e h rest =
    let at = rest h in
    record { before = x ∷ at.before; element = at.element; after = at.after; whole = ap (λ (ys : List A). x ∷ ys) at.whole; passes = at.passes }

pub passes_at : {A : Type 0} (p : A → Bool) (xs : List A) → list_any p xs ≡ true → PassesAt p xs
passes_at p [] h = absurd cc
passes_at p (x ∷ xs) h = passes_by p x xs (p x) refl h (passes_at p xs)

-- ---- counts

pub count_more : {A : Type 0} (p : A → Bool) (xs : List A) (x : A) → count_by p (xs ++ x ∷ []) ≡ count_by p xs + cond (p x) 1 0
count_more {A = A} p xs x = omega (arith, sum_by-append (λ (y : A). cond (p y) 1 0) xs (x ∷ []))

bounded_more : (b : Bool) (n k most : ℕ) → n ≤ most → k ≡ n + cond b 1 0 → (b ≡ true → n ≡ most → ⊥) → k ≤ most
bounded_more true n k most l e h = let other : n ≡ most → ⊥ = h refl in omega arith
bounded_more false n k most l e h = omega arith

few_from : {A : Type 0} (p : A → Bool) (most : ℕ) (all before after : List A) → ((prefix rest : List A) (x : A) → all ≡ prefix ++ x ∷ rest → p x ≡ true → count_by p prefix ≡ most → ⊥)
    → all ≡ before ++ after → count_by p before ≤ most → count_by p all ≤ most
few_from p most all before [] h e l = subst (λ xs. count_by p xs ≤ most) (sym (append-nil before) ∙ sym e) l
few_from p most all before (x ∷ after) h e l =
    few_from p most all (before ++ x ∷ []) after h (e ∙ sym (append_assoc before (x ∷ []) after))
    (bounded_more (p x) (count_by p before) (count_by p (before ++ x ∷ [])) most l (count_more p before x) (h before after x e))

-- where no element that passes follows this many that pass, no more than these pass
pub few : {A : Type 0} (p : A → Bool) (most : ℕ) (all : List A) → ((prefix rest : List A) (x : A) → all ≡ prefix ++ x ∷ rest → p x ≡ true → count_by p prefix ≡ most → ⊥) → count_by p all ≤ most
few p most all h = few_from p most all [] all h refl (omega arith)

-- ---- what is made of the elements

get_here : {B : Type 0} (ys zs : List B) (y : B) → slice_get (ys ++ y ∷ zs) (length ys) ≡ Some y
get_here [] zs y = refl
get_here (w ∷ ys) zs y = get_here ys zs y

-- what is made of an element stands after what is made of those before it
pub filter_map_at : {A B : Type 0} (f : A → Option B) (before after : List A) (x : A) (y : B) → f x ≡ Some y → slice_get (filter_map f (before ++ x ∷ after)) (length (filter_map f before)) ≡ Some y
filter_map_at f before after x y e =
    ap (λ ys. slice_get ys (length (filter_map f before))) (filter_map-append f before (x ∷ after) ∙ ap (λ o. filter_map f before ++ cons_option o (filter_map f after)) e)
    ∙ get_here (filter_map f before) (filter_map f after) y
