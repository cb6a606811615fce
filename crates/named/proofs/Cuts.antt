-- Lists that are cut at an element.
use Rattle.std.proofs.Common.{◌≡◌, ◌⊎◌, List, [], ◌∷◌, ◌++◌, refl, inl, inr, All}
use Rattle.std.proofs.lemmas.List.Elements.{All-head, All-tail}

pub none_cut : {A : Type 0} (before after : List A) (x : A) → [] ≡ before ++ x ∷ after → ⊥
none_cut [] after x e = absurd cc
none_cut (b ∷ before) after x e = absurd cc

-- a list cut twice at an element: at one place, or at two
pub two_cuts : {A : Type 0} (before other after rest : List A) (u v : A) → before ++ u ∷ after ≡ other ++ v ∷ rest
    → ((before ≡ other) × (u ≡ v)) ⊎ ((mid : List A) × (other ≡ before ++ u ∷ mid)) ⊎ ((mid : List A) × (before ≡ other ++ v ∷ mid))
two_cuts [] [] after rest u v e = inl (refl, cc)
two_cuts [] (o ∷ other) after rest u v e = inr (inl (other, cc))
two_cuts (b ∷ before) [] after rest u v e = inr (inr (before, cc))
two_cuts (b ∷ before) (o ∷ other) after rest u v e =
    let head : b ≡ o = cc in
    let tail : before ++ u ∷ after ≡ other ++ v ∷ rest = cc in
    elim (two_cuts before other after rest u v tail) [
      | inl k ↦ inl (cc (k.0), k.1)
      | inr (inl k) ↦ inr (inl (k.0, cc (k.1)))
      | inr (inr k) ↦ inr (inr (k.0, cc (k.1)))
    ]

-- a list that ends in an element, cut at an element: it is the last one, or stands before it
pub last_or_before : {A : Type 0} (xs before after : List A) (x v : A) → xs ++ x ∷ [] ≡ before ++ v ∷ after → ((xs ≡ before) × (x ≡ v)) ⊎ ((rest : List A) × (xs ≡ before ++ v ∷ rest))
last_or_before [] [] after x v e = inl (refl, cc)
last_or_before [] (b ∷ []) after x v e = absurd cc
last_or_before [] (b ∷ c ∷ before) after x v e = absurd cc
last_or_before (y ∷ xs) [] after x v e = inr (xs, cc)
last_or_before (y ∷ xs) (b ∷ before) after x v e =
    let head : y ≡ b = cc in
    let tail : xs ++ x ∷ [] ≡ before ++ v ∷ after = cc in
    elim (last_or_before xs before after x v tail) [ inl h ↦ inl (cc, h.1) | inr h ↦ inr (h.0, cc (h.1)) ]

-- what holds of all holds of one inside
pub inside : {A : Type 0} (P : A → Type 0) (before after : List A) (x : A) → All P (before ++ x ∷ after) → P x
inside P [] after x h = All-head P x after h
inside P (b ∷ before) after x h = inside P before after x (All-tail P b (before ++ x ∷ after) h)
