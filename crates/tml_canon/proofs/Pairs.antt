-- Two lists whose elements agree pair by pair.
use Rattle.std.proofs.Common.{◌≡◌, ℕ, ◌+◌, Bool, true, false, cond, ◌||◌, List, [], ◌∷◌, ◌++◌, refl, sym, ap, subst, ◌∙◌, Option}
use Rattle.std.specs.List.{All, AllZip, cons_option, count_by, filter, filter_map, list_any}
use Rattle.std.proofs.lemmas.List.Elements.{All-cons, All-head, All-nil, All-tail}
use Rattle.std.proofs.lemmas.List.Sums.{sum_by-cons}

-- what holds of each element holds of those that agree with them
pub pairs_all : {A B : Type 0} (R : A → B → Type 0) (P : A → Type 0) (Q : B → Type 0) → ((x : A) (y : B) → R x y → P x → Q y) → (xs : List A) (ys : List B) → AllZip R xs ys → All P xs → All Q ys
pairs_all R P Q w [] [] h k = All-nil Q
pairs_all R P Q w [] (y ∷ ys) h k = absurd h
pairs_all R P Q w (x ∷ xs) [] h k = absurd h
pairs_all R P Q w (x ∷ xs) (y ∷ ys) h k = All-cons Q y ys (w x y h.0 (All-head P x xs k)) (pairs_all R P Q w xs ys h.1 (All-tail P x xs k))

-- an element passes a test where one of the others passes the like
pub pairs_any : {A B : Type 0} (R : A → B → Type 0) (p : A → Bool) (q : B → Bool) → ((x : A) (y : B) → R x y → p x ≡ q y) → (xs : List A) (ys : List B) → AllZip R xs ys → list_any p xs ≡ list_any q ys
pairs_any R p q w [] [] h = refl
pairs_any R p q w [] (y ∷ ys) h = absurd h
pairs_any R p q w (x ∷ xs) [] h = absurd h
pairs_any R p q w (x ∷ xs) (y ∷ ys) h = ap (λ (b : Bool × Bool). b.0 || b.1) (λ i. (w x y h.0 i, pairs_any R p q w xs ys h.1 i))

-- as many pass it
pub pairs_count : {A B : Type 0} (R : A → B → Type 0) (p : A → Bool) (q : B → Bool) → ((x : A) (y : B) → R x y → p x ≡ q y) → (xs : List A) (ys : List B) → AllZip R xs ys → count_by p xs ≡ count_by q ys
pairs_count R p q w [] [] h = refl
pairs_count R p q w [] (y ∷ ys) h = absurd h
pairs_count R p q w (x ∷ xs) [] h = absurd h
pairs_count R p q w (x ∷ xs) (y ∷ ys) h =
    sum_by-cons (λ z. cond (p z) 1 0) x xs
    ∙ ap (λ (b : Bool × ℕ). cond b.0 1 0 + b.1) (λ i. (w x y h.0 i, pairs_count R p q w xs ys h.1 i))
    ∙ sym (sum_by-cons (λ z. cond (q z) 1 0) y ys)

-- the same is made of those of which something is made
pub pairs_made : {A B C : Type 0} (R : A → B → Type 0) (f : A → Option C) (g : B → Option C) → ((x : A) (y : B) → R x y → f x ≡ g y) → (xs : List A) (ys : List B) → AllZip R xs ys → filter_map f xs ≡ filter_map g ys
pairs_made R f g w [] [] h = refl
pairs_made R f g w [] (y ∷ ys) h = absurd h
pairs_made R f g w (x ∷ xs) [] h = absurd h
pairs_made R f g w (x ∷ xs) (y ∷ ys) h = λ i. cons_option (w x y h.0 i) (pairs_made R f g w xs ys h.1 i)

-- those that pass a test agree pair by pair with those that pass the like
pub pairs_filter : {A B : Type 0} (R : A → B → Type 0) (p : A → Bool) (q : B → Bool) → ((x : A) (y : B) → R x y → p x ≡ q y) → (xs : List A) (ys : List B) → AllZip R xs ys → AllZip R (filter p xs) (filter q ys)
pairs_filter R p q w [] [] h = tt
pairs_filter R p q w [] (y ∷ ys) h = absurd h
pairs_filter R p q w (x ∷ xs) [] h = absurd h
pairs_filter R p q w (x ∷ xs) (y ∷ ys) h =
    subst (λ (b : Bool). AllZip R (filter p (x ∷ xs)) (cond b (y ∷ filter q ys) (filter q ys))) (w x y h.0)
    (elim (p x) as (λ b. AllZip R (cond b (x ∷ filter p xs) (filter p xs)) (cond b (y ∷ filter q ys) (filter q ys))) [
      | true ↦ (h.0, pairs_filter R p q w xs ys h.1)
      | false ↦ pairs_filter R p q w xs ys h.1
    ])

-- what agrees with some elements agrees with those that agree with them
pub pairs_turned : {A B C : Type 0} (R : A → B → Type 0) (S : A → C → Type 0) (T : B → C → Type 0) → ((x : A) (y : B) (z : C) → R x y → S x z → T y z) → (xs : List A) (ys : List B) (zs : List C) → AllZip R xs ys → AllZip S xs zs → AllZip T ys zs
pairs_turned R S T w [] [] zs h k = k
pairs_turned R S T w [] (y ∷ ys) zs h k = absurd h
pairs_turned R S T w (x ∷ xs) [] zs h k = absurd h
pairs_turned R S T w (x ∷ xs) (y ∷ ys) [] h k = absurd k
pairs_turned R S T w (x ∷ xs) (y ∷ ys) (z ∷ zs) h k = (w x y z h.0 k.0, pairs_turned R S T w xs ys zs h.1 k.1)

-- where the others are cut, the elements are cut too
pub record CutAt {A B : Type 0} (R : A → B → Type 0) (xs : List A) (before : List B) (y : B) : Type 0 where
  pub first : List A
  pub element : A
  pub last : List A
  pub whole : xs ≡ first ++ element ∷ last
  pub before_agree : AllZip R first before
  pub agrees : R element y

-- and before the cut they agree pair by pair, as at it
pub pairs_cut : {A B : Type 0} (R : A → B → Type 0) (xs : List A) (before after : List B) (y : B) → AllZip R xs (before ++ y ∷ after) → CutAt R xs before y
pairs_cut R [] [] after y h = absurd h
pairs_cut R [] (b ∷ before) after y h = absurd h
pairs_cut R (x ∷ xs) [] after y h = record { first = []; element = x; last = xs; whole = refl; before_agree = tt; agrees = h.0 }
pairs_cut R (x ∷ xs) (b ∷ before) after y h =
    let rest = pairs_cut R xs before after y h.1 in record {
      first = x ∷ rest.first;
      element = rest.element;
      last = rest.last;
      whole = ap (λ (l : List _). x ∷ l) rest.whole;
      before_agree = (h.0, rest.before_agree);
      agrees = rest.agrees;
    }
