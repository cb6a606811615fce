-- Lists that are made of pieces, and lists of what is made of each element.
use Rattle.std.proofs.Common.{◌≡◌, ℕ, zero, suc, ◌+◌, ◌*◌, ◌<◌, ◌≤◌, Bool, true, false, cond, List, [], ◌∷◌, ◌++◌, length, map, refl, sym, ap, subst, ◌∙◌, append_assoc, arith, inl, inr, Option}
use Rattle.std.specs.List.{AllByRecursion, AllZip, cons_option, count_by, filter, filter_map, flat_map, list_any, range_with_len}
use Rattle.std.proofs.lemmas.Bool.{cases_lt, or_left, or_right}
use Rattle.std.proofs.lemmas.List.Elements.{filter-append, filter_map-append}
use Rattle.std.proofs.lemmas.List.Folds.{list_any-append}
use Rattle.std.proofs.lemmas.List.Sums.{sum_by-cons, sum_by-append}

-- ---- what holds after pieces

-- what a piece before keeps holds of a list after all pieces
pub after_pieces : {A B : Type 0} (P : List B → Type 0) (Q : A → Type 0) (f : A → List B) → ((x : A) (rest : List B) → Q x → P rest → P (f x ++ rest))
    → (xs : List A) (rest : List B) → AllByRecursion Q xs → P rest → P (flat_map f xs ++ rest)
after_pieces P Q f more [] rest q h = h
after_pieces P Q f more (x ∷ xs) rest q h = subst P (sym (append_assoc (f x) (flat_map f xs) rest)) (more x (flat_map f xs ++ rest) q.0 (after_pieces P Q f more xs rest q.1 h))

-- the same of two lists, whose pieces are made of the same
pub after_both : {A B C : Type 0} (P : List B → List C → Type 0) (Q : A → Type 0) (f : A → List B) (g : A → List C)
    → ((x : A) (bs : List B) (cs : List C) → Q x → P bs cs → P (f x ++ bs) (g x ++ cs))
    → (xs : List A) (bs : List B) (cs : List C) → AllByRecursion Q xs → P bs cs → P (flat_map f xs ++ bs) (flat_map g xs ++ cs)
after_both P Q f g more [] bs cs q h = h
after_both P Q f g more (x ∷ xs) bs cs q h =
    subst (λ (p : List _ × List _). P p.0 p.1) (λ i. (sym (append_assoc (f x) (flat_map f xs) bs) i, sym (append_assoc (g x) (flat_map g xs) cs) i))
    (more x (flat_map f xs ++ bs) (flat_map g xs ++ cs) q.0 (after_both P Q f g more xs bs cs q.1 h))

-- ---- what pieces give, one after another

-- what is made of pieces is made of each
pub filter_map_pieces : {A B C : Type 0} (h : B → Option C) (f : A → List B) (g : A → List C) → ((x : A) → filter_map h (f x) ≡ g x) → (xs : List A) → filter_map h (flat_map f xs) ≡ flat_map g xs
filter_map_pieces h f g e [] = refl
filter_map_pieces h f g e (x ∷ xs) = filter_map-append h (f x) (flat_map f xs) ∙ (λ i. e x i ++ filter_map_pieces h f g e xs i)

-- what passes of pieces passes of each
pub filter_pieces : {A B : Type 0} (p : B → Bool) (f g : A → List B) → ((x : A) → filter p (f x) ≡ g x) → (xs : List A) → filter p (flat_map f xs) ≡ flat_map g xs
filter_pieces p f g e [] = refl
filter_pieces p f g e (x ∷ xs) = filter-append p (f x) (flat_map f xs) ∙ (λ i. e x i ++ filter_pieces p f g e xs i)

-- empty pieces are nothing
pub no_pieces : {A B : Type 0} (xs : List A) → flat_map (λ (x : A). let none : List B = [] in none) xs ≡ []
no_pieces [] = refl
no_pieces (x ∷ xs) = no_pieces xs

-- as many of each piece pass a test
pub count_pieces : {A B : Type 0} (p : B → Bool) (f : A → List B) (m : ℕ) → ((x : A) → count_by p (f x) ≡ m) → (xs : List A) → count_by p (flat_map f xs) ≡ m * length xs
count_pieces p f m e [] = omega arith
count_pieces p f m e (x ∷ xs) = let rest = count_pieces p f m e xs in omega (arith, sum_by-append (λ y. cond (p y) 1 0) (f x) (flat_map f xs), e x, rest)

-- ---- what is made of each element

-- as many elements pass a test of what is made of them
pub count_made : {A B : Type 0} (p : B → Bool) (f : A → B) (xs : List A) → count_by (λ (x : A). p (f x)) xs ≡ count_by p (map f xs)
count_made p f [] = refl
count_made p f (x ∷ xs) = sum_by-cons (λ y. cond (p (f y)) 1 0) x xs ∙ ap (λ (n : ℕ). cond (p (f x)) 1 0 + n) (count_made p f xs) ∙ sym (sum_by-cons (λ y. cond (p y) 1 0) (f x) (map f xs))

-- what is made in two steps
pub filter_map_made : {A B C : Type 0} (h : B → Option C) (f : A → B) (xs : List A) → filter_map (λ (x : A). h (f x)) xs ≡ filter_map h (map f xs)
filter_map_made h f [] = refl
filter_map_made h f (x ∷ xs) = ap (λ (ys : List _). cons_option (h (f x)) ys) (filter_map_made h f xs)

-- what is made of the elements that pass
pub filter_made : {A B : Type 0} (p : B → Bool) (f : A → B) (xs : List A) → map f (filter (λ (x : A). p (f x)) xs) ≡ filter p (map f xs)
filter_made p f [] = refl
filter_made p f (x ∷ xs) = elim (p (f x)) as (λ b. map f (cond b (x ∷ filter (λ y. p (f y)) xs) (filter (λ y. p (f y)) xs)) ≡ cond b (f x ∷ filter p (map f xs)) (filter p (map f xs))) [
  | true ↦ ap (λ (ys : List _). f x ∷ ys) (filter_made p f xs)
  | false ↦ filter_made p f xs
]

-- elements agree where what is made of them does
pub zip_made : {A B C : Type 0} (R : B → C → Type 0) (f : A → B) (xs : List A) (ys : List C) → AllZip R (map f xs) ys → AllZip (λ (x : A) (y : C). R (f x) y) xs ys
zip_made R f [] [] h = tt
zip_made R f [] (y ∷ ys) h = absurd h
zip_made R f (x ∷ xs) [] h = absurd h
zip_made R f (x ∷ xs) (y ∷ ys) h = (h.0, zip_made R f xs ys h.1)

-- ---- numbers one after another

-- what the piece of a number of a range has, all pieces have
pub any_in_range : {B : Type 0} (p : B → Bool) (f : ℕ → List B) (i start len : ℕ) → start ≤ i → i < start + len → list_any p (f i) ≡ true → list_any p (flat_map f (range_with_len start len)) ≡ true
any_in_range p f i start zero low high h = absurd (omega arith)
any_in_range p f i start (suc len) low high h = list_any-append p (f start) (flat_map f (range_with_len (start + 1) len)) ∙ elim (cases_lt start i) [
  | inl later ↦ or_right (list_any p (f start)) (list_any p (flat_map f (range_with_len (start + 1) len))) (any_in_range p f i (start + 1) len (omega arith) (omega arith) h)
  | inr here ↦ or_left (list_any p (f start)) (list_any p (flat_map f (range_with_len (start + 1) len))) (let same : i ≡ start = omega arith in subst (λ (j : ℕ). list_any p (f j) ≡ true) same h)
]

-- before an element that passes there are fewer that pass than in all
pub fewer_before : {A : Type 0} (p : A → Bool) (before after : List A) (x : A) → p x ≡ true → count_by p before < count_by p (before ++ x ∷ after)
fewer_before p before after x h =
    let here = ap (λ (b : Bool). let n : ℕ = cond b 1 0 in n) h in
    omega (arith, sum_by-append (λ y. cond (p y) 1 0) before (x ∷ after), sum_by-cons (λ y. cond (p y) 1 0) x after, here)
