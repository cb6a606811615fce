-- The first elements of a list that fail a test, by the places that they have.
use Rattle.std.proofs.Common.{◌≡◌, ◌+◌, ◌<◌, ◌≤◌, ℕ, Bool, true, false, cond, min, List, [], ◌∷◌, ◌++◌, length, take, get_or, refl, ap, subst, ◌∙◌, inl, inr, arith, All}
use Rattle.std.specs.List.{AllZip, Contains, filter}
use Rattle.std.proofs.lemmas.Bool.{cases_lt}
use Rattle.std.proofs.lemmas.List.{get_or_default, take_more}
use Rattle.std.proofs.lemmas.List.Elements.{All-cons, All-nil, All-weaker, Contains-append_right, filter-append}
use Rattle.named.proofs.Pairs.{zip_append}

module _ {A : Type 0} (xs : List A) (place : A → ℕ) (fails : A → Bool) where
  -- of the first elements, this many, none before a place fails
  abbrev pub NoneFails : ℕ → ℕ → Type 0
  NoneFails i first = (k : ℕ) (d : A) → k < i → place (get_or xs k d) < first → fails (get_or xs k d) ≡ false

  next_is : (k i : ℕ) (d e : A) → i < length xs → k < i + 1 → i ≤ k → get_or xs k d ≡ get_or xs i e
  next_is k i d e inside below after = let same : k ≡ i = omega (arith, below, after) in ap (λ (n : ℕ). get_or xs n d) same ∙ get_or_default xs i d e inside

  -- one element more, which fails
  pub fails_next : (i first new : ℕ) (e : A) → i < length xs → NoneFails i first → new ≡ min first (place (get_or xs i e)) → NoneFails (i + 1) new
  fails_next i first new e inside old m = λ k d below small. elim (cases_lt k i) [
    | inl before ↦ old k d before (omega (arith, m, small))
    | inr after ↦ absurd (omega (arith, m, small, ap place (next_is k i d e inside below after)))
  ]

  -- or does not fail
  pub passes_next : (i first new : ℕ) (e : A) → i < length xs → NoneFails i first → fails (get_or xs i e) ≡ false → new ≡ first → NoneFails (i + 1) new
  passes_next i first new e inside old good same = λ k d below small. elim (cases_lt k i) [
    | inl before ↦ old k d before (omega (arith, same, small))
    | inr after ↦ ap fails (next_is k i d e inside below after) ∙ good
  ]

-- ---- pairs with the elements that pass a test

module _ {A B : Type 0} (R : A → B → Type 0) where
  zip_at : (us vs : List A) (x : A) (ys : List B) → AllZip R (us ++ x ∷ vs) ys → (y : B) × Contains ys y × R x y
  zip_at [] vs x [] h = absurd h
  zip_at [] vs x (y ∷ ys) h = (y, (0, omega arith, refl), h.0)
  zip_at (u ∷ us) vs x [] h = absurd h
  zip_at (u ∷ us) vs x (y ∷ ys) h = let at = zip_at us vs x ys h.1 in (at.0, Contains-append_right (y ∷ []) ys at.0 at.1, at.2)

  -- a pair more
  pub zip_next : (xs : List A) (i : ℕ) (e : A) (old new : List B) (y : B) → i < length xs → AllZip R (take i xs) old → R (get_or xs i e) y → new ≡ old ++ y ∷ [] → AllZip R (take (i + 1) xs) new
  zip_next xs i e old new y inside h r is = rw (is, take_more xs i e inside) (zip_append R (take i xs) (get_or xs i e ∷ []) old (y ∷ []) h (r, tt))

  module _ (p : A → Bool) where
    kept_by : (x : A) (xs : List A) (b : Bool) → p x ≡ b → b ≡ true → filter p (x ∷ xs) ≡ x ∷ filter p xs
    kept_by x xs b e t = ap (λ (c : Bool). cond c (x ∷ filter p xs) (filter p xs)) (e ∙ t)

    -- each element that passes has a partner
    pub zip_each : (xs before after : List A) (x : A) (ys : List B) → xs ≡ before ++ x ∷ after → p x ≡ true → AllZip R (filter p xs) ys → (y : B) × Contains ys y × R x y
    zip_each xs before after x ys whole t h =
        let cut : filter p xs ≡ filter p before ++ x ∷ filter p after = ap (filter p) whole ∙ filter-append p before (x ∷ after) ∙ ap (λ (zs : List A). filter p before ++ zs) (kept_by x after (p x) refl t) in
        zip_at (filter p before) (filter p after) x ys (subst (λ (zs : List A). AllZip R zs ys) cut h)

    abbrev pub IsPartner : List A → B → Type 0
    IsPartner xs y = (before after : List A) × (x : A) × (xs ≡ before ++ x ∷ after) × R x y

    longer : (x : A) (xs : List A) (y : B) → IsPartner xs y → IsPartner (x ∷ xs) y
    longer x xs y h = (x ∷ h.0, h.1, h.2, ap (λ (zs : List A). x ∷ zs) h.3, h.4)

    only_by : (x : A) (xs : List A) (b : Bool) (ys : List B) → ((zs : List B) → AllZip R (filter p xs) zs → All (IsPartner xs) zs) → AllZip R (cond b (x ∷ filter p xs) (filter p xs)) ys → All (IsPartner (x ∷ xs)) ys
    only_by x xs true [] rest h = All-nil (IsPartner (x ∷ xs))
    only_by x xs true (y ∷ ys) rest h = All-cons (IsPartner (x ∷ xs)) y ys ([], xs, x, refl, h.0) (All-weaker (IsPartner xs) (IsPartner (x ∷ xs)) (longer x xs) ys (rest ys h.1))
    only_by x xs false ys rest h = All-weaker (IsPartner xs) (IsPartner (x ∷ xs)) (longer x xs) ys (rest ys h)

    -- and each partner has an element
    pub zip_only : (xs : List A) (ys : List B) → AllZip R (filter p xs) ys → All (IsPartner xs) ys
    zip_only [] [] h = All-nil (IsPartner [])
    zip_only [] (y ∷ ys) h = absurd h
    zip_only (x ∷ xs) ys h = only_by x xs (p x) ys (zip_only xs) h
