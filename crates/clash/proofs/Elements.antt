-- The elements of a list.
use Rattle.std.proofs.Common.{◌≡◌, ◌↔◌, ◌⊎◌, inl, inr, zero, suc, Bool, true, false, cond, List, [], ◌∷◌, refl, sym, ap, subst, ◌∙◌, arith}
use Rattle.std.specs.List.{All, Contains, filter}
use Rattle.std.proofs.lemmas.List.Elements.{All-contains_itself, All-weaker}

-- an element of a list is its first, or one of the others
pub first_or_rest : {X : Type 0} (x : X) (xs : List X) (k : X) → Contains (x ∷ xs) k → (x ≡ k) ⊎ Contains xs k
first_or_rest x xs k (zero, lt, e) = inl e
first_or_rest x xs k (suc i, lt, e) = inr (i, omega (arith, lt), e)

pub first_in : {X : Type 0} (x : X) (xs : List X) → Contains (x ∷ xs) x
first_in x xs = (0, omega arith, refl)

pub rest_in : {X : Type 0} (x : X) (xs : List X) (k : X) → Contains xs k → Contains (x ∷ xs) k
rest_in x xs k (i, lt, e) = (suc i, omega (arith, lt), e)

-- so it is of one element more, which passes or fails
by_first : {X : Type 0} (p : X → Bool) (y : X) (ys : List X) (x : X) (b : Bool) → p y ≡ b → Contains (filter p ys) x ↔ (Contains ys x × (p x ≡ true))
    → Contains (cond b (y ∷ filter p ys) (filter p ys)) x ↔ (Contains (y ∷ ys) x × (p x ≡ true))
by_first p y ys x true e rest = (
  λ h. elim (first_or_rest y (filter p ys) x h) [
    | inl is ↦ (subst (Contains (y ∷ ys)) is (first_in y ys), sym (ap p is) ∙ e)
    | inr among ↦ let both = rest.0 among in (rest_in y ys x both.0, both.1)
  ],
  λ h. elim (first_or_rest y ys x h.0) [
    | inl is ↦ subst (Contains (y ∷ filter p ys)) is (first_in y (filter p ys))
    | inr among ↦ rest_in y (filter p ys) x (rest.1 (among, h.1))
  ],
)
by_first p y ys x false e rest = (
  λ h. let both = rest.0 h in (rest_in y ys x both.0, both.1),
  λ h. elim (first_or_rest y ys x h.0) [
    | inl is ↦ absurd (let passes = h.1 in let both : false ≡ true = sym e ∙ ap p is ∙ passes in cc)
    | inr among ↦ rest.1 (among, h.1)
  ],
)

-- the elements of a filtered list are those that pass
pub in_filter : {X : Type 0} (p : X → Bool) (xs : List X) (x : X) → Contains (filter p xs) x ↔ (Contains xs x × (p x ≡ true))
in_filter p [] x = (λ h. let lt = h.1 in absurd (omega arith), λ h. let lt = h.0.1 in absurd (omega arith))
in_filter p (y ∷ ys) x = by_first p y ys x (p y) refl (in_filter p ys x)

-- what is true of each element is true of all
pub every : {X : Type 0} (P : X → Type 0) (xs : List X) → ((x : X) → Contains xs x → P x) → All P xs
every P xs each = All-weaker (Contains xs) P each xs (All-contains_itself xs)
