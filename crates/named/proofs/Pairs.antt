-- Two lists whose elements agree pair by pair.
use Rattle.std.proofs.Common.{◌≡◌, ℕ, zero, suc, ◌<◌, List, [], ◌∷◌, ◌++◌, length, get_or, refl, arith}
use Rattle.std.specs.List.{All, AllZip}
use Rattle.std.proofs.lemmas.List.Elements.{All-head, All-tail}

-- pairs of elements that agree, and others after them
pub zip_append : {A B : Type 0} (R : A → B → Type 0) (xs others : List A) (ys more : List B) → AllZip R xs ys → AllZip R others more → AllZip R (xs ++ others) (ys ++ more)
zip_append R [] others [] more h k = k
zip_append R [] others (y ∷ ys) more h k = absurd h
zip_append R (x ∷ xs) others [] more h k = absurd h
zip_append R (x ∷ xs) others (y ∷ ys) more h k = (h.0, zip_append R xs others ys more h.1 k)

-- where each element has a partner, there is a list of partners
pub partners : {A B : Type 0} (R : A → B → Type 0) (xs : List A) → All (λ x. (y : B) × R x y) xs → (ys : List B) × AllZip R xs ys
partners R [] h = ([], tt)
partners {A} {B} R (x ∷ xs) h =
    let one = All-head (λ (x : A). (y : B) × R x y) x xs h in
    let rest = partners R xs (All-tail (λ (x : A). (y : B) × R x y) x xs h) in
    (one.0 ∷ rest.0, (one.1, rest.1))

-- two lists whose elements agree with the same elements are one list, where each agrees with one element at most
pub zip_one : {A B : Type 0} (R : A → B → Type 0) → ((x : A) (y z : B) → R x y → R x z → y ≡ z) → (xs : List A) (ys zs : List B) → AllZip R xs ys → AllZip R xs zs → ys ≡ zs
zip_one R one [] [] [] h k = refl
zip_one R one [] [] (z ∷ zs) h k = absurd k
zip_one R one [] (y ∷ ys) zs h k = absurd h
zip_one R one (x ∷ xs) [] zs h k = absurd h
zip_one R one (x ∷ xs) (y ∷ ys) [] h k = absurd k
zip_one R one (x ∷ xs) (y ∷ ys) (z ∷ zs) h k =
    let first = one x y z h.0 k.0 in
    let rest = zip_one R one xs ys zs h.1 k.1 in
    λ i. first i ∷ rest i

-- two lists that are as long and agree at each place agree pair by pair
pub zip_from : {A B : Type 0} (R : A → B → Type 0) (d : A) (e : B) (xs : List A) (ys : List B) → length ys ≡ length xs → ((k : ℕ) → k < length xs → R (get_or xs k d) (get_or ys k e)) → AllZip R xs ys
zip_from R d e [] [] size each = tt
zip_from R d e [] (y ∷ ys) size each = absurd (omega (arith, size))
zip_from R d e (x ∷ xs) [] size each = absurd (omega (arith, size))
zip_from R d e (x ∷ xs) (y ∷ ys) size each = (each 0 (omega arith), zip_from R d e xs ys (omega (arith, size)) (λ k below. each (suc k) (omega (arith, below))))

-- and the other way round
pub zip_at : {A B : Type 0} (R : A → B → Type 0) (d : A) (e : B) (xs : List A) (ys : List B) → AllZip R xs ys → (k : ℕ) → k < length xs → R (get_or xs k d) (get_or ys k e)
zip_at R d e [] ys all k below = absurd (omega (arith, below))
zip_at R d e (x ∷ xs) [] all k below = absurd all
zip_at R d e (x ∷ xs) (y ∷ ys) all zero below = all.0
zip_at R d e (x ∷ xs) (y ∷ ys) all (suc k) below = zip_at R d e xs ys all.1 k (omega (arith, below))
